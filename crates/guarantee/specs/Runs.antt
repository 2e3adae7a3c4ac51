-- Runs, and what the claims say of their events. Assumes nothing.
use Rattle.std.specs.Prelude.{◌≡◌, ◌≢◌, ◌⊎◌, List, [], ◌∷◌, ℕ, zero, suc, ◌≤◌, ◌<◌}
use Rattle.pool.specs.State.{client}
use Rattle.pool.specs.Calls.{call_of}
use Rattle.pool.specs.declared.Pool.{Pool}
use Rattle.pool.specs.declared.Call.{Call}
use Rattle.pool.specs.declared.Call.TheVariants.{Begin, Step, Release}
use Rattle.pool.specs.declared.Answer.{Answer}
use Rattle.pool.specs.declared.Answer.TheVariants.{Done, Granted, Refused}
use Rattle.pool.specs.declared.Counted.{Counted}

-- one call of a run: the pool it was handed, what was asked and answered, what the tally counted, and the pool it returned
pub record Event : Type 0 where
  pub before : Pool
  pub asked : Call
  pub answer : Answer
  pub counted : Counted
  pub next : Pool

abbrev pub event_of : Pool → Call → Event
event_of p x = let o = call_of p x in record { before = p; asked = x; answer = o.answer; counted = o.counted; next = o.pool }

-- SPECIFICATION 3.8: the calls of a run that starts with pool p
unfoldable pub events : Pool → List Call → List Event
events p [] = []
events p (x ∷ calls) = event_of p x ∷ events (call_of p x).pool calls

-- the list has an element at place n, counted from 0, and that element has the property
unfoldable pub At : {A : Type 0} → (A → Type 0) → List A → ℕ → Type 0
At P [] n = ⊥
At P (x ∷ xs) zero = P x
At P (x ∷ xs) (suc n) = At P xs n

-- A run, for claims about it: of each property of calls, whether event n of the run is a call of the pool that has it. A list of calls gives one
-- run; a list with other things between the calls would give another, and the claims would stand as they are.
abbrev pub Run : Type 1
Run = (Event → Type 0) → ℕ → Type 0

abbrev pub along : List Event → Run
along es P n = At P es n

-- event n is a call of the pool, whichever
abbrev pub IsCall : Run → ℕ → Type 0
IsCall run n = run (λ _. Unit {0}) n

-- no event between k and n is a call that has the property
abbrev pub NoneBetween : (Event → Type 0) → Run → ℕ → ℕ → Type 0
NoneBetween P run k n = (m : ℕ) → k < m → m < n → run P m → ⊥

-- every pool of a run has the property: the first, and each that a call returned
unfoldable pub Throughout : (Pool → Type 0) → Pool → List Call → Type 0
Throughout P p [] = P p
Throughout P p (x ∷ calls) = P p × Throughout P (call_of p x).pool calls

-- a step of client c, which stands at stage i
abbrev pub StepAt : ℕ → ℕ → Event → Type 0
StepAt c i e = (e.asked ≡ Step c) × ((client e.before c).stage ≡ i)

-- a begin of client c that is done; a step of client c that is granted; a release of client c that is done
abbrev pub Begins : ℕ → Event → Type 0
Begins c e = (g : ℕ) × (e.asked ≡ Begin c g) × (e.answer ≡ Done g)

abbrev pub GrantedTo : ℕ → Event → Type 0
GrantedTo c e = (f : ℕ) × (e.asked ≡ Step c) × (e.answer ≡ Granted f)

abbrev pub Releases : ℕ → Event → Type 0
Releases c e = (g : ℕ) × (e.asked ≡ Release c g) × (e.answer ≡ Done g)

-- what a call is answered by where it is turned down, by whichever number but 15; and what a request is answered by: a grant, or refusal 15
abbrev pub TurnsDown : Answer → Type 0
TurnsDown a = (n : ℕ) × (a ≡ Refused n) × (n ≢ 15)

abbrev pub EndsRequest : Answer → Type 0
EndsRequest a = ((f : ℕ) × (a ≡ Granted f)) ⊎ (a ≡ Refused 15)

-- a call that is turned down; a step of client c that answers its request
abbrev pub TurnedDown : Event → Type 0
TurnedDown e = TurnsDown e.answer

abbrev pub AnswersTo : ℕ → Event → Type 0
AnswersTo c e = (e.asked ≡ Step c) × EndsRequest e.answer

-- Client c's request that is begun at event k is its last up to event n: no later begin of the client is done before n.
abbrev pub SameRequest : Run → ℕ → ℕ → ℕ → Type 0
SameRequest run c k n = NoneBetween (Begins c) run k n

-- exactly one of the events k + 1 to n has the property
abbrev pub ExactlyOne : (Event → Type 0) → Run → ℕ → ℕ → Type 0
ExactlyOne P run k n = (j : ℕ) × (k < j) × (j ≤ n) × run P j × ((i : ℕ) → k < i → i ≤ n → run P i → i ≡ j)

-- at least t of the events between k and n have the property
pub data AtLeast (P : Event → Type 0) (run : Run) (k : ℕ) : ℕ → ℕ → Type 0 where
  enough : {n : ℕ} → AtLeast P run k 0 n
  one_more : {t m n : ℕ} → k < m → m < n → run P m → AtLeast P run k t m → AtLeast P run k (suc t) n
