-- GUARANTEE 24, somebody always gets through: of so many accepted steps one is an answer, whichever clients make them and whatever other calls stand
-- between them. `Claims.antt` takes the claim in. Statements only. Assumes nothing.
use Rattle.std.specs.Prelude.{◌≡◌, List, ℕ, suc, ◌+◌, ◌-◌, ◌*◌, ◌≤◌, ◌<◌}
use Rattle.pool.specs.State.{number_of_clients}
use Rattle.pool.specs.Calls.{SetUp}
use Rattle.pool.specs.declared.Pool.{Pool}
use Rattle.pool.specs.declared.Call.{Call}
use Rattle.pool.specs.declared.Call.TheVariants.{Step}
use Rattle.pool.specs.declared.Answer.{Answer}
use Rattle.guarantee.specs.Runs.{Event, events, At, along, TurnsDown, EndsRequest}

-- ---- how many: in a pool of s slots and t clients, with counts up to c

abbrev pub step_bound : ℕ → ℕ → ℕ → ℕ
step_bound s t c = (2 * s + 1) * s * (c - 1) + (2 * s + 3) * (t - 1) * (s + 3 * t) + (6 * s + 24) * t + 1

-- a number that is easier to remember, and no smaller
abbrev pub plain_bound : ℕ → ℕ → ℕ → ℕ
plain_bound s t c = 4 * (c + t) * ((s + t) * (s + t))

-- the one is no larger than the other, and this no larger than 4 C (S + T)^3
abbrev pub ClaimBounds : Type 0
ClaimBounds =
    (s t c : ℕ) → 1 ≤ s → 1 ≤ t → 1 ≤ c
    → (step_bound s t c ≤ plain_bound s t c) × (plain_bound s t c ≤ 4 * c * ((s + t) * (s + t) * (s + t)))

-- ---- of what

-- a step, of whichever client, whose answer has the property
abbrev pub StepWith : (Answer → Type 0) → Event → Type 0
StepWith P e = (c : ℕ) × (e.asked ≡ Step c) × P e.answer

-- an accepted step is one that is not turned down; an answer is a grant or refusal 15
abbrev pub Accepting : Answer → Type 0
Accepting a = TurnsDown a → ⊥

abbrev pub AcceptedStep : Event → Type 0
AcceptedStep = StepWith Accepting

abbrev pub Answers : Event → Type 0
Answers = StepWith EndsRequest

-- ---- where

-- n places that have the property, each later than the one before it, with whatever between them
pub record Places (Has : ℕ → Type 0) (n : ℕ) : Type 0 where
  pub nth : ℕ → ℕ
  pub later : (i : ℕ) → suc i < n → nth i < nth (suc i)
  pub has : (i : ℕ) → i < n → Has (nth i)

-- from the first of n such places to the last of them there is one that answers
abbrev pub OneAnswers : (Has Answered : ℕ → Type 0) → ℕ → Type 0
OneAnswers Has Answered n = (x : Places Has n) → (m : ℕ) × (x.nth 0 ≤ m) × (m ≤ x.nth (n - 1)) × Answered m

-- so it is of as many as each of the two numbers says
pub record GetsThrough (s t c : ℕ) (Steps Answered : ℕ → Type 0) : Type 0 where
  pub close : OneAnswers Steps Answered (step_bound s t c)
  pub plain : OneAnswers Steps Answered (plain_bound s t c)

abbrev pub ClaimProgress : Type 0
ClaimProgress =
    (p : Pool) → SetUp p → (calls : List Call)
    → let run = along (events p calls) in
    GetsThrough p.size (number_of_clients p) p.cap (run AcceptedStep) (run Answers)

-- ---- for the ties to the calls' contracts: of nothing but what was asked and what was answered

-- the n-th that was asked is a step, of whichever client, and its answer has the property
module _ {A B : Type 0} (step : ℕ → A) (asked : List A) (answers : List B) where
  abbrev pub StepAnswered : (B → Type 0) → ℕ → Type 0
  StepAnswered P n = (c : ℕ) × At (λ (x : A). x ≡ step c) asked n × At P answers n
