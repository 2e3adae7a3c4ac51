-- The tie between the code and the guarantee: whatever the contracts of the calls allow goes through the very pools, answers and tallies that the
-- guarantee speaks of. Each call is handed the pool that the one before it left, as in a run (SPECIFICATION 3.8), and whichever tally its caller has.
-- Statements only. Assumes nothing.
use Rattle.std.specs.Prelude.{◌≡◌, ◌≢◌, List, [], ◌∷◌, map, ℕ, length, take, drop}
use Rattle.pool.specs.Calls.{setup_of, SetUp, call_of, pool_after}
use Rattle.pool.specs.Tallies.{zero_tally, tallied}
use Rattle.pool.specs.Holdings.{holdings_refusal, holdings_of}
use Rattle.pool.specs.declared.Pool.{Pool}
use Rattle.pool.specs.declared.Tally.{Tally}
use Rattle.pool.specs.declared.Row.{Row}
use Rattle.pool.specs.declared.Listed.{Listed}
use Rattle.pool.specs.declared.Outcome.{Outcome}
use Rattle.pool.specs.declared.Call.{Call}
use Rattle.pool.specs.declared.Call.TheVariants.{Begin, Step, Release}
use Rattle.pool.specs.declared.Answer.{Answer}
use Rattle.pool.specs.declared.Answer.TheVariants.{Done, Refused}
use Rattle.calls.specs.declared.Stepped.{Stepped}
use Rattle.step.specs.declared.Answered.{Answered}
use Rattle.holdings.specs.Rows.{blank}
use Rattle.guarantee.specs.Runs.{Event, events, EndsRequest}
use Rattle.guarantee.specs.Progress.{Accepting, GetsThrough, StepAnswered}
use Rattle.guarantee.specs.Claims.{Point3, tally_of, AddsUp, Listing, HeldOnce}
use Rattle.tie.specs.Promises.{SetupSays, BeginSays, ReleaseSays, StepTalliedSays, StepOfSays, StepSays}
use Rattle.tie.specs.Promises.{HoldingsOnSays, HoldingsOfSays, HoldingsSays, Unasked, Kept}

-- ---- what the contracts allow

-- One call on a pool and a tally, its answer, and the pool and the tally after it, as the contract of the function that makes it allows. Only a step
-- is lent the tally, and three functions make a step.
pub data Makes (p : Pool) (t : Tally) : Call → Answer → Pool → Tally → Type 0 where
  begin : {c g : ℕ} (r : Outcome) → BeginSays p c g r → Makes p t (Begin c g) r.answer r.pool t
  release : {c g : ℕ} (r : Outcome) → ReleaseSays p c g r → Makes p t (Release c g) r.answer r.pool t
  step_tallied : {c : ℕ} (r : Stepped) → StepTalliedSays p c t r → Makes p t (Step c) r.answer r.pool r.tally
  step_of : {c : ℕ} (r : Stepped) → StepOfSays p c t r → Makes p t (Step c) r.answer r.pool r.tally
  step : {c : ℕ} (r : Answered) {u : Tally} → StepSays p c t r u → Makes p t (Step c) r.answer r.pool u

-- a list of calls, each on the pool and the tally that the last one left; the answers, and the pool and the tally after the last
pub data Plays : Pool → Tally → List Call → List Answer → Pool → Tally → Type 0 where
  at_end : {p : Pool} {t : Tally} → Plays p t [] [] p t
  at_call : {p q r : Pool} {t u v : Tally} {x : Call} {a : Answer} {calls : List Call} {answers : List Answer}
      → Makes p t x a q u → Plays q u calls answers r v → Plays p t (x ∷ calls) (a ∷ answers) r v

-- a setup as its contract allows, that is accepted
pub record Accepted (s t c h : ℕ) (r : Outcome) : Type 0 where
  pub says : SetupSays s t c h r
  pub done : r.answer ≡ Done s

-- ---- the claims

-- a setup is the definition's, and so is a call, whichever function makes it
abbrev pub ClaimSetup : Type 0
ClaimSetup = (s t c h : ℕ) (r : Outcome) → SetupSays s t c h r → r ≡ setup_of s t c h

abbrev pub ClaimCall : Type 0
ClaimCall =
    (p q : Pool) (t u : Tally) (x : Call) (a : Answer) → Makes p t x a q u
    → (a ≡ (call_of p x).answer) × (q ≡ (call_of p x).pool) × (u ≡ tallied (call_of p x).counted t)

-- the answers, the pool and the tally of a list of calls are those of the guarantee's events
abbrev pub ClaimList : Type 0
ClaimList =
    (p q : Pool) (t u : Tally) (calls : List Call) (answers : List Answer) → Plays p t calls answers q u
    → (answers ≡ map (λ (e : Event). e.answer) (events p calls)) × (q ≡ pool_after p calls) × (u ≡ tally_of t (events p calls))

-- none of this is empty: every setup and every list of calls has an answer that the contracts allow
pub record Answerable : Type 0 where
  pub setup : (s t c h : ℕ) → (r : Outcome) × SetupSays s t c h r
  pub list : (p : Pool) (t : Tally) (calls : List Call) → (answers : List Answer) × (q : Pool) × (u : Tally) × Plays p t calls answers q u

-- whichever tally is lent changes neither the answer nor the pool
abbrev pub ClaimAnyTally : Type 0
ClaimAnyTally =
    (p q q' : Pool) (t t' u u' : Tally) (x : Call) (a a' : Answer) → Makes p t x a q u → Makes p t' x a' q' u' → (a ≡ a') × (q ≡ q')

-- The pool that an accepted setup left was set up in the guarantee's sense: so each of its claims about such a pool and every list of calls holds of
-- it, and by `ClaimList` the events that they speak of are what the code does. `Point3` is one of them.
abbrev pub ClaimIsSetUp : Type 0
ClaimIsSetUp = (s t c h : ℕ) (r : Outcome) → Accepted s t c h r → SetUp r.pool

abbrev pub ClaimPoint3 : Type 0
ClaimPoint3 = (s t c h : ℕ) (r : Outcome) → Accepted s t c h r → (calls : List Call) → Point3 r.pool calls

-- GUARANTEE 12, SPECIFICATION 7.4: the tally's sum
abbrev pub ClaimSum : Type 0
ClaimSum =
    (s t c h : ℕ) (r : Outcome) → Accepted s t c h r
    → (calls : List Call) (answers : List Answer) (q : Pool) (u : Tally) → Plays r.pool zero_tally calls answers q u
    → AddsUp q u

-- GUARANTEE 24: of so many accepted steps one is an answer, by what was asked and answered alone, whichever tallies are lent
abbrev pub ClaimProgress : Type 0
ClaimProgress =
    (s t c h : ℕ) (r : Outcome) → Accepted s t c h r
    → (calls : List Call) (answers : List Answer) (q : Pool) (v u : Tally) → Plays r.pool v calls answers q u
    → GetsThrough s t c (StepAnswered Step calls answers Accepting) (StepAnswered Step calls answers EndsRequest)

-- Holdings is answered with n on these rows and leaves those. k is the number of the first check that turns it down, 0 if none does.
module _ (p : Pool) (c n k : ℕ) (rows left : List Row) where
  -- it is done: the list's first n rows are the client's, one for each of its grants (GUARANTEE 14), and those after them are as they were lent
  abbrev pub Fills : Type 0
  Fills = (k ≡ 0) × (length (take n left) ≡ n) × Listing p c (take n left) × HeldOnce p c (take n left) × (drop n left ≡ drop n rows)

  -- it is refused: all rows are as they were lent
  abbrev pub Leaves : Type 0
  Leaves = (k ≢ 0) × (n ≡ k) × (left ≡ rows)

-- It has no part in a list of calls: it is asked of a pool and changes none. By value it is the definition's, as over a lent list by `HoldingsSays`.
pub record ListsHoldings : Type 0 where
  pub holdings_on : (p : Pool) (c : ℕ) (rows : List Row) (r : Listed) → HoldingsOnSays p c rows r → r ≡ holdings_of p c rows
  pub holdings_of_call : (p : Pool) (c : ℕ) (r : Listed) → HoldingsOfSays p c r → r ≡ holdings_of p c blank
  pub holdings_done : (p : Pool) (c n : ℕ) (rows left : List Row) → HoldingsSays p c rows (Done n) left
      → Fills p c n (holdings_refusal p c (length rows)) rows left
  pub holdings_refused : (p : Pool) (c n : ℕ) (rows left : List Row) → HoldingsSays p c rows (Refused n) left
      → Leaves p c n (holdings_refusal p c (length rows)) rows left

pub record Tied : Type 2 where
  pub unasked : Unasked
  pub kept : Kept
  pub setup : ClaimSetup
  pub call : ClaimCall
  pub list : ClaimList
  pub answerable : Answerable
  pub any_tally : ClaimAnyTally
  pub set_up : ClaimIsSetUp
  pub point3 : ClaimPoint3
  pub sum : ClaimSum
  pub progress : ClaimProgress
  pub holdings : ListsHoldings
