-- The tie between the code of a pool that has bytes and what is claimed of lists with reads and writes: whatever the contracts of the calls allow goes
-- through the very pools, bytes, stores, answers and tallies that the claims speak of. Each call is handed the pool and the store that the one before
-- it left (SPECIFICATION 13.4), and whichever tally its caller has. Statements only. Assumes nothing.
use Rattle.std.specs.Prelude.{◌≡◌, ◌≢◌, List, [], ◌∷◌, map, ℕ, ◌<◌, length}
use Rattle.pool.specs.Choose.{choose}
use Rattle.pool.specs.Holdings.{holdings_refusal}
use Rattle.pool.specs.Tallies.{zero_tally, tallied}
use Rattle.pool.specs.declared.Tally.{Tally}
use Rattle.pool.specs.declared.Call.TheVariants.{Begin, Step, Release}
use Rattle.pool.specs.declared.Answer.{Answer}
use Rattle.pool.specs.declared.Answer.TheVariants.{Done, Refused}
use Rattle.pool.specs.declared.Row.{Row}
use Rattle.pool.specs.declared.Listed.{Listed}
use Rattle.pool.specs.declared.Counted.TheVariants.{Nothing}
use Rattle.guarantee.specs.Runs.{At, EndsRequest}
use Rattle.guarantee.specs.Progress.{Accepting, GetsThrough, StepAnswered}
use Rattle.guarantee.specs.Claims.{AddsUp}
use Rattle.memory.specs.Memory.{store_byte}
use Rattle.memory.specs.Requests.{Request, Asks, ReadByte, WriteByte, State, setup_on, bytes_ok, call_on, state_of, buffer_pool, holdings_on}
use Rattle.memory.specs.Happenings.{Happening, happenings, state_after, SetUpOn}
use Rattle.memory.specs.declared.BufferPool.{BufferPool}
use Rattle.memory.specs.declared.Reply.{Reply}
use Rattle.memory.specs.declared.Tallied.{Tallied}
use Rattle.mixed.specs.Mixed.{tally_on, Point3On, asks_step}
use Rattle.tie.specs.Ties.{Fills, Leaves}
use Rattle.byte_tie.specs.Promises.{Loan, SetupSays, BeginSays, ReleaseSays, StepTalliedSays, StepSays, ReadSays, WriteSays}
use Rattle.byte_tie.specs.Promises.{HoldingsOnSays, HoldingsSays, Unasked, Kept}

-- ---- what the contracts allow

-- One request on a state and a tally, its answer, and the state and the tally after it, as the contract of the function that makes it allows. Only a
-- step is lent the tally, and only it may write to the store; a begin and a release are not lent the store at all.
pub data Makes (x : State) (t : Tally) : Request → Answer → State → Tally → Type 0 where
  begin : {c g : ℕ} (r : Reply) → BeginSays (buffer_pool x) c g r → Makes x t (Asks (Begin c g)) r.answer (state_of r.pool x.store) t
  release : {c g : ℕ} (r : Reply) → ReleaseSays (buffer_pool x) c g r → Makes x t (Asks (Release c g)) r.answer (state_of r.pool x.store) t
  step_tallied : {c : ℕ} (l : Loan) (r : Tallied) {left : List ℕ} → StepTalliedSays l (buffer_pool x) c t x.store r left
      → Makes x t (Asks (Step c)) r.answer (state_of r.pool left) r.tally
  step : {c : ℕ} (r : Reply) {u : Tally} {left : List ℕ} → StepSays (buffer_pool x) c t x.store r u left
      → Makes x t (Asks (Step c)) r.answer (state_of r.pool left) u
  read : {c g o : ℕ} (l : Loan) (r : Reply) → ReadSays l (buffer_pool x) c g o x.store r
      → Makes x t (ReadByte c g o) r.answer (state_of r.pool x.store) t
  write : {c g o v : ℕ} (l : Loan) (r : Reply) → WriteSays l (buffer_pool x) c g o v x.store r
      → Makes x t (WriteByte c g o v) r.answer (state_of r.pool x.store) t

-- a list of requests, each on the state and the tally that the last one left; the answers, and the state and the tally after the last
pub data Plays : State → Tally → List Request → List Answer → State → Tally → Type 0 where
  at_end : {x : State} {t : Tally} → Plays x t [] [] x t
  at_request : {x y z : State} {t u v : Tally} {r : Request} {a : Answer} {rs : List Request} {answers : List Answer}
      → Makes x t r a y u → Plays y u rs answers z v → Plays x t (r ∷ rs) (a ∷ answers) z v

-- a setup as its contract allows, that is accepted
pub record Accepted (s t c h : ℕ) (store : List ℕ) (r : Reply) : Type 0 where
  pub loan : Loan
  pub says : SetupSays loan s t c h store r
  pub done : r.answer ≡ Done s

-- ---- the claims: calls

-- a setup is the definition's, and leaves the store
abbrev pub ClaimSetup : Type 0
ClaimSetup =
    (l : Loan) (s t c h : ℕ) (store : List ℕ) (r : Reply) → SetupSays l s t c h store r
    → (r.answer ≡ (setup_on s t c h store).answer) × (state_of r.pool store ≡ (setup_on s t c h store).state)

-- so is a request, whichever function makes it: answer, pool, memory and store, tally
abbrev pub ClaimRequest : Type 0
ClaimRequest =
    (x y : State) (t u : Tally) (r : Request) (a : Answer) → Makes x t r a y u
    → (a ≡ (call_on x r).answer) × (y ≡ (call_on x r).state) × (u ≡ tallied (call_on x r).counted t)

-- a request that is no step leaves the store, by the definition, and counts nothing
abbrev pub ClaimStoreStays : Type 0
ClaimStoreStays =
    (x : State) (r : Request) → ((c : ℕ) → r ≢ Asks (Step c)) → ((call_on x r).state.store ≡ x.store) × ((call_on x r).counted ≡ Nothing)

-- the answers, the state and the tally of a list of requests are those of its happenings
abbrev pub ClaimList : Type 0
ClaimList =
    (x y : State) (t u : Tally) (rs : List Request) (answers : List Answer) → Plays x t rs answers y u
    → (answers ≡ map (λ (h : Happening). h.answer) (happenings x rs)) × (y ≡ state_after x rs) × (u ≡ tally_on t (happenings x rs))

-- none of this is empty: every setup and every list of requests has an answer that the contracts allow, however the store is lent
pub record Answerable : Type 0 where
  pub setup : (l : Loan) (s t c h : ℕ) (store : List ℕ) → (r : Reply) × SetupSays l s t c h store r
  pub list : Loan → (x : State) (t : Tally) (rs : List Request) → (answers : List Answer) × (y : State) × (u : Tally) × Plays x t rs answers y u

-- whichever tally is lent changes neither the answer nor the state
abbrev pub ClaimAnyTally : Type 0
ClaimAnyTally =
    (x y y' : State) (t t' u u' : Tally) (r : Request) (a a' : Answer) → Makes x t r a y u → Makes x t' r a' y' u' → (a ≡ a') × (y ≡ y')

-- ---- the claims: lists from an accepted setup

-- The pool that an accepted setup left, and the store that it was lent, were set up in the claims' sense: so each claim of crates `contents` and `mixed`
-- about such a state and every list holds of them, and by `ClaimList` what they speak of is what the code does. `Point3On` is one of them.
abbrev pub ClaimIsSetUp : Type 0
ClaimIsSetUp = (s t c h : ℕ) (store : List ℕ) (r : Reply) → Accepted s t c h store r → SetUpOn (state_of r.pool store)

abbrev pub ClaimPoint3 : Type 0
ClaimPoint3 =
    (s t c h : ℕ) (store : List ℕ) (r : Reply) → Accepted s t c h store r → (rs : List Request) → Point3On (state_of r.pool store) rs

-- GUARANTEE 12, SPECIFICATION 7.4: the tally's sum
abbrev pub ClaimSum : Type 0
ClaimSum =
    (s t c h : ℕ) (store : List ℕ) (r : Reply) → Accepted s t c h store r
    → (rs : List Request) (answers : List Answer) (y : State) (u : Tally) → Plays (state_of r.pool store) zero_tally rs answers y u
    → AddsUp y.pool u

-- GUARANTEE 24: of so many accepted steps one is an answer, by what was asked and answered alone, whichever tallies are lent
abbrev pub ClaimProgress : Type 0
ClaimProgress =
    (s t c h : ℕ) (store : List ℕ) (r : Reply) → Accepted s t c h store r
    → (rs : List Request) (answers : List Answer) (y : State) (v u : Tally) → Plays (state_of r.pool store) v rs answers y u
    → GetsThrough s t c (StepAnswered asks_step rs answers Accepting) (StepAnswered asks_step rs answers EndsRequest)

-- `ReadsLast` of crate `contents`, of nothing but what was asked and what was answered
module _ (rs : List Request) (answers : List Answer) where
  -- the n-th request, counted from 0, is r, and its answer is a
  abbrev pub Answers : Request → Answer → ℕ → Type 0
  Answers r a n = At (λ (q : Request). q ≡ r) rs n × At (λ (b : Answer). b ≡ a) answers n

  -- by whichever client: it reads page g at offset o and answers b; it writes byte v there and is done
  abbrev pub ReadsAt : (g o b n : ℕ) → Type 0
  ReadsAt g o b n = (c : ℕ) × Answers (ReadByte c g o) (Done b) n

  abbrev pub WritesAt : (g o v n : ℕ) → Type 0
  WritesAt g o v n = (c : ℕ) × Answers (WriteByte c g o v) (Done g) n

  -- read n answers the byte of the last write of the place that is done before it, and the byte of the store at setup where there is none
  pub record LastByte (store : List ℕ) : Type 0 where
    pub last_written : (g o b v k n : ℕ) → ReadsAt g o b n → k < n → WritesAt g o v k
        → ((j w : ℕ) → k < j → j < n → WritesAt g o w j → ⊥) → b ≡ v
    pub never_written : (g o b n : ℕ) → ReadsAt g o b n → ((j w : ℕ) → j < n → WritesAt g o w j → ⊥) → b ≡ store_byte store g o

-- SPECIFICATION 13.13: of whatever the contracts allow after an accepted setup, with whichever tally
abbrev pub ClaimReads : Type 0
ClaimReads =
    (s t c h : ℕ) (store : List ℕ) (r : Reply) → Accepted s t c h store r
    → (rs : List Request) (answers : List Answer) (y : State) (t u : Tally) → Plays (state_of r.pool store) t rs answers y u
    → LastByte rs answers store

-- ---- the claims: holdings

-- the number of the first check that turns it down, 0 if none does
abbrev pub holdings_refusal_on : BufferPool → ℕ → List Row → ℕ
holdings_refusal_on b c rows = choose (bytes_ok b.pool b.memory) (holdings_refusal b.pool c (length rows)) 8

-- It has no part in a list of requests: it is asked of a pool and changes none. By value it is the definition's, as over a lent list by `HoldingsSays`.
pub record ListsHoldings : Type 0 where
  pub holdings_on_call : (b : BufferPool) (c : ℕ) (rows : List Row) (r : Listed) → HoldingsOnSays b c rows r → r ≡ holdings_on b c rows
  pub holdings_done : (b : BufferPool) (c n : ℕ) (rows left : List Row) → HoldingsSays b c rows (Done n) left
      → Fills b.pool c n (holdings_refusal_on b c rows) rows left
  pub holdings_refused : (b : BufferPool) (c n : ℕ) (rows left : List Row) → HoldingsSays b c rows (Refused n) left
      → Leaves b.pool c n (holdings_refusal_on b c rows) rows left

pub record Tied : Type 2 where
  pub unasked : Unasked
  pub kept : Kept
  pub setup : ClaimSetup
  pub request : ClaimRequest
  pub store_stays : ClaimStoreStays
  pub list : ClaimList
  pub answerable : Answerable
  pub any_tally : ClaimAnyTally
  pub set_up : ClaimIsSetUp
  pub point3 : ClaimPoint3
  pub sum : ClaimSum
  pub progress : ClaimProgress
  pub reads : ClaimReads
  pub holdings : ListsHoldings
