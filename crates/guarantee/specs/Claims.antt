-- What is claimed of every run from an accepted setup: docs/GUARANTEE.md, claim by claim. `Point3`, named after the point of the user's request, is
-- claims 1 to 6 as one. Statements only; `proofs/Guaranteed.antt` puts their proofs together. Assumes nothing.
use Rattle.std.specs.Prelude.{◌≡◌, ◌≢◌, ◌⊎◌, ◌↔◌, Bool, true, false, ◌||◌, List, [], ◌∷◌, ℕ, suc, ◌+◌, ◌≤◌, ◌<◌, T, eqb, length, set, replicate}
use Rattle.pool.specs.State.{none, evicted, pinned, number_of_clients, total, resting, slot, pins, count, client, grant_page, grant_frame}
use Rattle.pool.specs.Table.{lookup, resident, pages_in_table}
use Rattle.pool.specs.Grants.{held}
use Rattle.pool.specs.Frames.{free_frame}
use Rattle.pool.specs.Stages.{first_count}
use Rattle.pool.specs.Valid.{valid}
use Rattle.pool.specs.Calls.{SetUp, caller, call_of, pool_after}
use Rattle.pool.specs.Tallies.{largest, zero_tally, tallied}
use Rattle.pool.specs.Holdings.{times_held, rows_of, row}
use Rattle.pool.specs.declared.Pool.{Pool}
use Rattle.pool.specs.declared.Client.{Client}
use Rattle.pool.specs.declared.Tally.{Tally}
use Rattle.pool.specs.declared.Row.{Row}
use Rattle.pool.specs.declared.Call.{Call}
use Rattle.pool.specs.declared.Call.TheVariants.{Begin, Step, Release}
use Rattle.pool.specs.declared.Answer.{Answer}
use Rattle.pool.specs.declared.Answer.TheVariants.{Done, Working, Granted, Refused}
use Rattle.pool.specs.declared.Counted.{Counted}
use Rattle.pool.specs.declared.Counted.TheVariants.{Nothing, Admitted, Drop, Refusal}
use Rattle.guarantee.specs.Runs.{Event, events, At, Run, along, IsCall, NoneBetween, Throughout, StepAt, Begins, GrantedTo, Releases, AnswersTo, TurnedDown, ExactlyOne, AtLeast}
use Rattle.guarantee.specs.Runs.{SameRequest}
use Rattle.guarantee.specs.Sequential.{Sequential, Keeps, seq_client, start, Rule, adding, admitting}
use Rattle.guarantee.specs.BusySweep.{ClaimBusySweep}
use Rattle.guarantee.specs.Progress.{ClaimBounds, ClaimProgress}

-- ---- GUARANTEE 2: one copy

-- SPECIFICATION 2.2: no client has two grants of one page, and none works on a page that it holds
pub record OneEach (p : Pool) : Type 0 where
  pub held_once : (c i j : ℕ) → i < (client p c).held → j < (client p c).held → grant_page p c i ≡ grant_page p c j → i ≡ j
  pub not_begun : (c i : ℕ) → (client p c).stage ≢ 0 → i < (client p c).held → grant_page p c i ≢ (client p c).page

-- two grants of one page, which are two clients' then, name one frame
abbrev pub OneCopy : Pool → Type 0
OneCopy p =
    (c d i j : ℕ) → i < (client p c).held → j < (client p d).held → grant_page p c i ≡ grant_page p d j → grant_frame p c i ≡ grant_frame p d j

-- ---- GUARANTEE 1: as told. `OneCopy` speaks of the grants that the pool lists for each client; this part says that they are those of which the
-- client was told, and which it has not released since.

pub record OpenGrant : Type 0 where
  pub page : ℕ
  pub frame : ℕ

module _ (c : ℕ) (e : Event) where
  -- how many grants client c had before the call and has after it, and the one at place i, before and after
  abbrev pub had : ℕ
  had = (client e.before c).held

  abbrev pub has : ℕ
  has = (client e.next c).held

  abbrev pub was : ℕ → OpenGrant
  was i = record { page = grant_page e.before c i; frame = grant_frame e.before c i }

  abbrev pub is : ℕ → OpenGrant
  is i = record { page = grant_page e.next c i; frame = grant_frame e.next c i }

  -- one grant more, the last: of the page that the client wanted, and on frame f
  pub record GrantOpens (f : ℕ) : Type 0 where
    pub one_more : has ≡ had + 1
    pub new : is had ≡ record { page = (client e.before c).page; frame = f }
    pub others : (i : ℕ) → i < had → is i ≡ was i

  -- one grant less: that of page g, at a place. The last moves to its place, if it was not the last itself.
  pub record GrantEnds (g : ℕ) : Type 0 where
    pub one_less : had ≡ has + 1
    pub place : ℕ
    pub inside : place < had
    pub of_page : (was place).page ≡ g
    pub gone : (i : ℕ) → i < has → (is i).page ≢ g
    pub moved : place < has → is place ≡ was has
    pub others : (i : ℕ) → i < has → i ≢ place → is i ≡ was i

  pub record GrantsStay : Type 0 where
    pub as_many : has ≡ had
    pub each : (i : ℕ) → is i ≡ was i

  pub record GrantsAsTold : Type 0 where
    -- a grant begins with the answer that tells the client its frame
    pub granted : (f : ℕ) → e.asked ≡ Step c → e.answer ≡ Granted f → GrantOpens f
    -- a release that is done ends the one of its page
    pub released : (g : ℕ) → e.asked ≡ Release c g → e.answer ≡ Done g → GrantEnds g
    -- every other call leaves them, the client's own or another's, whatever its answer
    pub otherwise : (GrantedTo c e → ⊥) → (Releases c e → ⊥) → GrantsStay
    -- The page that is granted is the one that was begun: no call between the two changes it.
    pub begun : (g : ℕ) → e.asked ≡ Begin c g → e.answer ≡ Done g → (client e.next c).page ≡ g
    pub still_wants : (Begins c e → ⊥) → (client e.next c).stage ≢ 0
        → ((client e.before c).stage ≢ 0) × ((client e.next c).page ≡ (client e.before c).page)

-- every client rests at first and has no grants, and every call of the run changes its grants as it was told
pub record GrantLists (p : Pool) (run : Run) : Type 0 where
  pub rests_at_first : (c : ℕ) → (client p c).stage ≡ 0
  pub none_at_first : (c : ℕ) → (client p c).held ≡ 0
  pub as_told : (c n : ℕ) → IsCall run n → run (GrantsAsTold c) n

-- ---- GUARANTEE 3: held pages stay

-- a call leaves a frame evicted that was not
abbrev pub BecomesEvicted : ℕ → Event → Type 0
BecomesEvicted f e = (pins e.before f ≢ evicted) × (pins e.next f ≡ evicted)

abbrev pub NoHeldEvicted : Run → Type 0
NoHeldEvicted run = (f n : ℕ) → run (BecomesEvicted f) n → run (λ e. held e.before f ≡ false) n

abbrev pub HeldPinned : Pool → Type 0
HeldPinned p = (f : ℕ) → held p f ≡ true → pinned 1 ≤ pins p f

-- SPECIFICATION 1.2: a pin for each client at most
abbrev pub FewPins : Pool → Type 0
FewPins p = (f : ℕ) → pins p f ≤ pinned (number_of_clients p)

-- ---- GUARANTEE 4: taken out once

-- an eviction of frame f
pub record Evicts (f : ℕ) (e : Event) : Type 0 where
  pub client_of : ℕ
  pub stage : ℕ
  pub step_of : StepAt client_of stage e
  pub one_of : T (eqb stage 14 || eqb stage 20 || eqb stage 23)
  pub becomes_evicted : BecomesEvicted f e

-- A stage 15 replaces frame f in slot i. This takes an eviction of f out of that slot, unless a stage 4 took the frame anew in between.
pub record Replaces (f i : ℕ) (e : Event) : Type 0 where
  pub client_of : ℕ
  pub step_of : StepAt client_of 15 e
  pub named : slot e.before i ≡ f
  pub names_no_more : slot e.next i ≢ f

pub record Takes (f : ℕ) (e : Event) : Type 0 where
  pub client_of : ℕ
  pub step_of : StepAt client_of 4 e
  pub takes : (client e.next client_of).own ≡ f

-- the eviction of frame f at event k is taken out of slot i at event n
pub record TakenOut (run : Run) (f k i n : ℕ) : Type 0 where
  pub later : k < n
  pub replaces : run (Replaces f i) n
  pub not_anew : NoneBetween (Takes f) run k n

-- what takes one eviction out twice is one event, and one slot
abbrev pub TakenOutOnce : Run → Type 0
TakenOutOnce run = (f k i j m n : ℕ) → run (Evicts f) k → TakenOut run f k i m → TakenOut run f k j n → (m ≡ n) × (i ≡ j)

-- ---- GUARANTEE 5: one at a time

-- page g is resident, in frame f
abbrev pub ResidentIn : Pool → ℕ → ℕ → Type 0
ResidentIn p g f = (resident p g ≡ true) × (lookup p g ≡ f)

abbrev pub SamePages : Pool → Sequential → Type 0
SamePages p q = (g f : ℕ) → Keeps q g f ↔ ResidentIn p g f

-- and its clients stand where the real ones stand
abbrev pub SameStages : Pool → Sequential → Type 0
SameStages p q = (c : ℕ) → (seq_client q c).stage ≡ (client p c).stage

-- the sequential pool, from state q, can answer each call as the pool p and its successors do
pub data Follows : Pool → Sequential → List Call → Type 0 where
  at_end : {p : Pool} {q : Sequential} → SamePages p q → SameStages p q → Follows p q []
  at_call : {p : Pool} {q q' : Sequential} {x : Call} {calls : List Call}
      → SamePages p q → SameStages p q → Rule q x (call_of p x).answer q' → Follows (call_of p x).pool q' calls → Follows p q (x ∷ calls)

-- whether a grant takes effect: at the steps of which the sequential pool's rules `adds` and `admits` speak, told by the stage and the answer, which
-- both pools share (`SameStages`, and the answer in `at_call`)
unfoldable pub takes_effect : ℕ → Answer → Bool
takes_effect i (Done n) = false
takes_effect i (Working j) = adding i j
takes_effect i (Granted f) = admitting i
takes_effect i (Refused n) = false

abbrev pub TakesEffect : ℕ → Event → Type 0
TakesEffect c e = (e.asked ≡ Step c) × T (takes_effect (client e.before c).stage e.answer)

-- The request of client c that event n answers, and its one effect. Its begin is the client's last that is done before n, and no request of the
-- client is answered between the two: so event n answers this very request.
pub record TakesEffectOnce (run : Run) (c n : ℕ) : Type 0 where
  pub begin : ℕ
  pub earlier : begin < n
  pub begun : run (Begins c) begin
  pub same_request : SameRequest run c begin n
  pub no_other_answer : NoneBetween (AnswersTo c) run begin n
  pub once : ExactlyOne (TakesEffect c) run begin n

-- Every grant answers a request that takes effect at exactly one event, after its begin and no later than the answer.
abbrev pub OneEffect : Run → Type 0
OneEffect run = (c n : ℕ) → run (GrantedTo c) n → TakesEffectOnce run c n

-- ---- GUARANTEE 6: refused only when full

abbrev pub AllHeld : Pool → Type 0
AllHeld p = (i : ℕ) → i < p.size → (slot p i ≢ none) × (held p (slot p i) ≡ true)

-- Client c begins on page g at event k, in pool p, and is answered at event n; at the begin the others rest, and every call of the pool between the
-- two events is this client's or is turned down.
pub record Alone (run : Run) (p : Pool) (c g k n : ℕ) : Type 0 where
  pub begun : run (λ e. (e.before ≡ p) × (e.asked ≡ Begin c g) × (e.answer ≡ Done g)) k
  pub others_rest : (d : ℕ) → d ≢ c → (client p d).stage ≡ 0
  pub later : k < n
  pub answered : run (AnswersTo c) n
  pub same_request : SameRequest run c k n
  pub no_others : (m : ℕ) → k < m → m < n → IsCall run m → run (λ e. (caller e.asked ≡ c) ⊎ TurnedDown e) m

abbrev pub RefusedAlone : Run → Type 0
RefusedAlone run =
    (p : Pool) (c g k n : ℕ) → Alone run p c g k n → run (λ e. e.answer ≡ Refused 15) n ↔ ((resident p g ≡ false) × AllHeld p)

-- ---- GUARANTEE 1 to 6 of one list of calls

-- from pool p on; the sequential pool starts with as many slots and clients as p has
pub record Point3 (p : Pool) (calls : List Call) : Type 0 where
  pub grants : GrantLists p (along (events p calls))
  pub one_each : Throughout OneEach p calls
  pub one_copy : Throughout OneCopy p calls
  pub no_held_evicted : NoHeldEvicted (along (events p calls))
  pub held_pinned : Throughout HeldPinned p calls
  pub few_pins : Throughout FewPins p calls
  pub taken_out_once : TakenOutOnce (along (events p calls))
  pub sequential : Follows p (start p.size (number_of_clients p)) calls
  pub one_effect : OneEffect (along (events p calls))
  pub refused_alone : RefusedAlone (along (events p calls))

-- of every list of calls
abbrev pub ClaimPoint3 : Type 0
ClaimPoint3 = (p : Pool) → SetUp p → (calls : List Call) → Point3 p calls

-- ---- GUARANTEE 8: listed answers

-- what the call can be answered by, refusal 8 aside
unfoldable pub Listed : Pool → Call → Answer → Type 0
Listed p (Begin c g) a = (a ≡ Done g) ⊎ ((a ≡ Refused 9) ⊎ ((a ≡ Refused 10) ⊎ ((a ≡ Refused 12) ⊎ (a ≡ Refused 18))))
Listed p (Step c) a =
    ((j : ℕ) × (a ≡ Working j) × (1 ≤ j) × (j ≤ 23)) ⊎ (((f : ℕ) × (a ≡ Granted f) × (f < total p))
    ⊎ ((a ≡ Refused 9) ⊎ ((a ≡ Refused 11) ⊎ (a ≡ Refused 15))))
Listed p (Release c g) a = (a ≡ Done g) ⊎ ((a ≡ Refused 9) ⊎ ((a ≡ Refused 10) ⊎ (a ≡ Refused 13)))

-- of every pool, from wherever it was handed: one of these or 8
abbrev pub ClaimListed : Type 0
ClaimListed = (p : Pool) (x : Call) → ((call_of p x).answer ≡ Refused 8) ⊎ Listed p x (call_of p x).answer

-- GUARANTEE 9, check 8 is never met: the pools of a run keep their ranges, a client at stage 4 finds a frame, and no answer is 8
pub record Answered (p : Pool) (calls : List Call) : Type 0 where
  pub in_range : Throughout (λ p. valid p ≡ true) p calls
  pub finds : Throughout (λ p. (c : ℕ) → (client p c).stage ≡ 4 → free_frame p < total p) p calls
  pub listed : (n : ℕ) (e : Event) → At (λ x. x ≡ e) (events p calls) n → Listed e.before e.asked e.answer

abbrev pub ClaimAnswers : Type 0
ClaimAnswers = (p : Pool) → SetUp p → (calls : List Call) → Answered p calls

-- GUARANTEE 10: of every pool, from wherever it was handed
abbrev pub ClaimTurnedDown : Type 0
ClaimTurnedDown =
    (p : Pool) (x : Call) (n : ℕ) → (call_of p x).answer ≡ Refused n → n ≢ 15 → ((call_of p x).pool ≡ p) × ((call_of p x).counted ≡ Nothing)

-- the pool with another record for client c, and nothing else changed
abbrev pub with_client : Pool → ℕ → Client → Pool
with_client p c k =
    record {
      size = p.size;
      client_count = p.client_count;
      cap = p.cap;
      hand = p.hand;
      free = p.free;
      last = p.last;
      slots = p.slots;
      pages = p.pages;
      pins = p.pins;
      counts = p.counts;
      table_pages = p.table_pages;
      table_frames = p.table_frames;
      clients = set p.clients c k;
      grant_pages = p.grant_pages;
      grant_frames = p.grant_frames;
    }

-- SPECIFICATION 3.9: call x is a step of a client that comes to rest, and nothing else changes
abbrev pub RestsRefused : Pool → Call → Type 0
RestsRefused p x =
    (c : ℕ) × (x ≡ Step c) × ((call_of p x).pool ≡ with_client p c (resting (client p c).held)) × ((call_of p x).counted ≡ Refusal)

-- GUARANTEE 11: of every pool, from wherever it was handed
abbrev pub ClaimRefused : Type 0
ClaimRefused = (p : Pool) (x : Call) → (call_of p x).answer ≡ Refused 15 → RestsRefused p x

-- ---- GUARANTEE 12: pages that came and pages that left

-- some page is in the table of pool p and not in that of q
abbrev pub Lost : Pool → Pool → Type 0
Lost p q = (g : ℕ) × (lookup p g ≢ none) × (lookup q g ≡ none)

-- SPECIFICATION 7.3, from pool p to q: a drop is counted exactly if a page leaves the table, and an admission exactly if one comes
abbrev pub CountsPages : Pool → Counted → Pool → Type 0
CountsPages p u q = ((u ≡ Drop) ↔ Lost p q) × ((u ≡ Admitted) ↔ Lost q p)

-- SPECIFICATION 7.3: this is so of each call of a run
abbrev pub ClaimDrops : Type 0
ClaimDrops =
    (p : Pool) → SetUp p → (calls : List Call) (x : Call)
    → let now = pool_after p calls in
    CountsPages now (call_of now x).counted (call_of now x).pool

-- one tally that goes from call to call
unfoldable pub tally_of : Tally → List Event → Tally
tally_of t [] = t
tally_of t (e ∷ es) = tally_of (tallied e.counted t) es

-- SPECIFICATION 7.4: neither count of the sum is at its largest value, where it would stay
abbrev pub BelowLargest : Tally → Type 0
BelowLargest t = (t.admitted < largest) × (t.drops < largest)

-- SPECIFICATION 7.4, with the drops on the other side: these numbers are never negative
abbrev pub AddsUp : Pool → Tally → Type 0
AddsUp p t = BelowLargest t → pages_in_table p + t.drops ≡ t.admitted

-- SPECIFICATION 7.4: of a tally that is lent throughout
abbrev pub ClaimSum : Type 0
ClaimSum = (p : Pool) → SetUp p → (calls : List Call) → AddsUp (pool_after p calls) (tally_of zero_tally (events p calls))

-- ---- GUARANTEE 13: the limits of steps

-- of n + 1 steps of client c, with no other call, the last is granted
abbrev pub GrantedAtLast : Pool → ℕ → ℕ → Type 0
GrantedAtLast p c n = At (GrantedTo c) (events p (replicate (suc n) (Step c))) n

-- it is granted at one of its first n steps
abbrev pub GrantedWithin : Pool → ℕ → ℕ → Type 0
GrantedWithin p c n = (i : ℕ) × (i < n) × GrantedAtLast p c i

-- client b begins on page g in pool p, of s slots
abbrev pub WithinLimits : Pool → ℕ → ℕ → ℕ → Type 0
WithinLimits p s b g =
    let q = (call_of p (Begin b g)).pool in
    (resident p g ≡ true → GrantedWithin q b 3)
    × (resident p g ≡ false → (i : ℕ) → i < p.size → slot p i ≡ none → GrantedWithin q b (s + 7))

abbrev pub ClaimLimits : Type 0
ClaimLimits =
    (p : Pool) → SetUp p → (calls : List Call) (b g : ℕ)
    → let now = pool_after p calls in
    ((d : ℕ) → (client now d).stage ≡ 0) → (call_of now (Begin b g)).answer ≡ Done g → WithinLimits now p.size b g

-- ---- GUARANTEE 14: holdings in page order

-- each row is a page that client c holds, with the number 1; the pages rise; and each page that the client holds has a row
pub record Listing (p : Pool) (c : ℕ) (rows : List Row) : Type 0 where
  pub right : (i : ℕ) → i < length rows → ((row rows i).times ≡ 1) × (0 < times_held p c (row rows i).page)
  pub rising : (i j : ℕ) → i < j → j < length rows → (row rows i).page < (row rows j).page
  pub complete : (g : ℕ) → 0 < times_held p c g → (i : ℕ) × (i < length rows) × ((row rows i).page ≡ g)

-- the rows of the definition are a listing, and no other list is one; of every pool, from wherever it was handed
abbrev pub ClaimHoldings : Type 0
ClaimHoldings = (p : Pool) (c : ℕ) (rows : List Row) → Listing p c rows ↔ (rows ≡ rows_of p c)

-- SPECIFICATION 8.1: the number of a row is that of client c's grants of its page, and there are as many rows as grants
pub record HeldOnce (p : Pool) (c : ℕ) (rows : List Row) : Type 0 where
  pub times : (i : ℕ) → i < length rows → (row rows i).times ≡ times_held p c (row rows i).page
  pub as_many : length rows ≡ (client p c).held

-- of every pool that passes check 8, from wherever it was handed
abbrev pub ClaimHeldOnce : Type 0
ClaimHeldOnce = (p : Pool) (c : ℕ) → valid p ≡ true → HeldOnce p c (rows_of p c)

-- ---- GUARANTEE 23: how long a page stays

-- frame f is taken for a page whose first count is t
abbrev pub TakesWith : ℕ → ℕ → Event → Type 0
TakesWith f t e = (k : Takes f e) × (first_count e.before.cap (client e.before k.client_of).page ≡ t)

-- a 13 lowers the count of frame f; a 14 evicts it
abbrev pub Lowers : ℕ → Event → Type 0
Lowers f e = (c : ℕ) × StepAt c 13 e × (count e.next f < count e.before f)

abbrev pub SweepsOut : ℕ → Event → Type 0
SweepsOut f e = (c : ℕ) × StepAt c 14 e × BecomesEvicted f e

-- SPECIFICATION 4.31: the frame has this count then; and unless another 4 takes it, its count is lowered at least so often before a 14 evicts it
pub record Lasts (run : Run) : Type 0 where
  pub starts : (f t n : ℕ) → run (TakesWith f t) n → run (λ e. count e.next f ≡ t) n
  pub lowered : (f t k n : ℕ) → run (TakesWith f t) k → k < n → NoneBetween (Takes f) run k n → run (SweepsOut f) n → AtLeast (Lowers f) run k t n

abbrev pub ClaimLasts : Type 0
ClaimLasts = (p : Pool) → SetUp p → (calls : List Call) → Lasts (along (events p calls))

-- ---- all of it

pub record Guarantee : Type 0 where
  pub point3 : ClaimPoint3
  pub listed : ClaimListed
  pub answers : ClaimAnswers
  pub turned_down : ClaimTurnedDown
  pub refused : ClaimRefused
  pub busy_sweep : ClaimBusySweep
  pub drops : ClaimDrops
  pub sum : ClaimSum
  pub limits : ClaimLimits
  pub holdings : ClaimHoldings
  pub held_once : ClaimHeldOnce
  pub lasts : ClaimLasts
  pub bounds : ClaimBounds
  pub progress : ClaimProgress
