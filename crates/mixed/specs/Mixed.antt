-- What is claimed of lists that hold reads and writes too: each claim of crate `guarantee` again, of those events of the list that are calls of the
-- pool; that a read or write leaves the pool; and a sequential pool that knows how many pages the store has. Then what holds of every state, also of
-- one that was handed over. `GuaranteeOn` is all of it. Statements only. Assumes nothing.
use Rattle.std.specs.Prelude.{◌≡◌, ◌≢◌, ◌⊎◌, ◌↔◌, true, false, List, [], ◌∷◌, ℕ, suc, ◌+◌, ◌≤◌, ◌<◌, T, length, replicate}
use Rattle.pool.specs.Choose.{choose, member}
use Rattle.pool.specs.State.{none, number_of_clients, total, resting, slot, page, entry_page, entry_frame, client, grant_page}
use Rattle.pool.specs.Table.{lookup, resident}
use Rattle.pool.specs.Frames.{free_frame}
use Rattle.pool.specs.Valid.{valid}
use Rattle.pool.specs.Tallies.{zero_tally, tallied}
use Rattle.pool.specs.Calls.{call_of}
use Rattle.pool.specs.Holdings.{holdings_of}
use Rattle.pool.specs.declared.Pool.{Pool}
use Rattle.pool.specs.declared.Client.{Client}
use Rattle.pool.specs.declared.Tally.{Tally}
use Rattle.pool.specs.declared.Row.{Row}
use Rattle.pool.specs.declared.Call.{Call}
use Rattle.pool.specs.declared.Call.TheVariants.{Begin, Step, Release}
use Rattle.pool.specs.declared.Answer.{Answer}
use Rattle.pool.specs.declared.Answer.TheVariants.{Done, Refused}
use Rattle.pool.specs.declared.Outcome.{Outcome}
use Rattle.pool.specs.declared.Counted.TheVariants.{Nothing, Refusal}
use Rattle.guarantee.specs.Runs.{Event, At, Run, GrantedTo}
use Rattle.guarantee.specs.Sequential.{Sequential, start, seq_refusal, Rule}
use Rattle.guarantee.specs.BusySweep.{BusySweep}
use Rattle.guarantee.specs.Progress.{AcceptedStep, Answers, GetsThrough}
use Rattle.guarantee.specs.Claims.{GrantLists, OneEach, OneCopy, NoHeldEvicted, HeldPinned, FewPins, TakenOutOnce, SamePages, SameStages, OneEffect, RefusedAlone, Listed}
use Rattle.guarantee.specs.Claims.{with_client, CountsPages, AddsUp, Lasts}
use Rattle.memory.specs.Memory.{max_pages, is_filled, is_changed, copied_page, unmarked, moved}
use Rattle.memory.specs.Requests.{Request, Asks, ReadByte, WriteByte, State, Result, bytes_ok, store_ok, first_of, in_order, outside_at, byte_refusal, refusal_on, refused}
use Rattle.memory.specs.Requests.{call_on, buffer_pool, holdings_on}
use Rattle.memory.specs.Happenings.{Happening, happenings, state_after, SetUpOn}
use Rattle.memory.specs.declared.Memory.{Memory}

-- ---- the calls of the pool in a list, as a `Run`

-- a call of the pool, of which the event sees the pool alone
abbrev pub event_at : Happening → Call → Event
event_at h call = record { before = h.before.pool; asked = call; answer = h.answer; counted = h.counted; next = h.next.pool }

-- what was asked is a call of the pool, and as an event it has the property; false of a read or write
unfoldable pub of_call : (Event → Type 0) → Happening → Request → Type 0
of_call P h (Asks call) = P (event_at h call)
of_call P h (ReadByte c g o) = ⊥
of_call P h (WriteByte c g o v) = ⊥

abbrev pub OfCall : (Event → Type 0) → Happening → Type 0
OfCall P h = of_call P h h.asked

-- the run of these calls: each keeps the place that it has among all of them
abbrev pub amid : List Happening → Run
amid hs P n = At (OfCall P) hs n

-- every state has the property: the first, and each that a call left
unfoldable pub ThroughoutOn : (State → Type 0) → State → List Request → Type 0
ThroughoutOn P x [] = P x
ThroughoutOn P x (r ∷ rs) = P x × ThroughoutOn P (call_on x r).state rs

-- ---- the sequential pool beside a store of n pages

-- SPECIFICATION 13.14: what it turns down, from its own state and n. A read or write is tested as a release is, and then for 16 and 17.
unfoldable pub seq_refusal_on : ℕ → Sequential → Request → ℕ
seq_refusal_on n q (Asks call) = in_order (seq_refusal q call) (outside_at n call)
seq_refusal_on n q (ReadByte c g o) = first_of (seq_refusal q (Release c g)) (byte_refusal n g o)
seq_refusal_on n q (WriteByte c g o v) = first_of (seq_refusal q (Release c g)) (byte_refusal n g o)

-- SPECIFICATION 13.14: from state q it may answer r so and go on as the last argument. At a read or write the state stays, and a read may have any
-- value.
pub data RuleOn (n : ℕ) (q : Sequential) : Request → Answer → Sequential → Type 0 where
  turns_down : {r : Request} {m : ℕ} → seq_refusal_on n q r ≡ m → m ≢ 0 → RuleOn n q r (Refused m) q
  asks : {call : Call} {a : Answer} {q' : Sequential} → seq_refusal_on n q (Asks call) ≡ 0 → Rule q call a q' → RuleOn n q (Asks call) a q'
  reads : {c g o v : ℕ} → seq_refusal_on n q (ReadByte c g o) ≡ 0 → RuleOn n q (ReadByte c g o) (Done v) q
  writes : {c g o v : ℕ} → seq_refusal_on n q (WriteByte c g o v) ≡ 0 → RuleOn n q (WriteByte c g o v) (Done g) q

-- it can answer each request as state x and its successors do, with the same pages in the same frames and the clients at the same stages
pub data FollowsOn (n : ℕ) : State → Sequential → List Request → Type 0 where
  at_end : {x : State} {q : Sequential} → SamePages x.pool q → SameStages x.pool q → FollowsOn n x q []
  at_call : {x : State} {q q' : Sequential} {r : Request} {rs : List Request} → SamePages x.pool q → SameStages x.pool q
      → RuleOn n q r (call_on x r).answer q' → FollowsOn n (call_on x r).state q' rs → FollowsOn n x q (r ∷ rs)

-- ---- point 3

-- a read or a write
unfoldable pub IsByte : Request → Type 0
IsByte (Asks call) = ⊥
IsByte (ReadByte c g o) = Unit {0}
IsByte (WriteByte c g o v) = Unit {0}

-- the pool is as it was, and nothing was counted
abbrev pub LeavesPool : Happening → Type 0
LeavesPool h = (h.next.pool ≡ h.before.pool) × (h.counted ≡ Nothing)

-- the fields of `Point3`, of the calls of the pool, and that reads and writes leave the pool; the sequential pool knows the number of pages
pub record Point3On (x : State) (rs : List Request) : Type 0 where
  pub grants : GrantLists x.pool (amid (happenings x rs))
  pub one_each : ThroughoutOn (λ y. OneEach y.pool) x rs
  pub one_copy : ThroughoutOn (λ y. OneCopy y.pool) x rs
  pub no_held_evicted : NoHeldEvicted (amid (happenings x rs))
  pub held_pinned : ThroughoutOn (λ y. HeldPinned y.pool) x rs
  pub few_pins : ThroughoutOn (λ y. FewPins y.pool) x rs
  pub taken_out_once : TakenOutOnce (amid (happenings x rs))
  pub sequential : FollowsOn x.memory.pages x (start x.pool.size (number_of_clients x.pool)) rs
  pub one_effect : OneEffect (amid (happenings x rs))
  pub refused_alone : RefusedAlone (amid (happenings x rs))
  pub bytes_apart : (n : ℕ) → At (λ h. IsByte h.asked) (happenings x rs) n → At LeavesPool (happenings x rs) n

-- GUARANTEE 17, SPECIFICATION 13.14: of every list from an accepted setup
abbrev pub ClaimPoint3On : Type 0
ClaimPoint3On = (x : State) → SetUpOn x → (rs : List Request) → Point3On x rs

-- ---- listed answers

-- SPECIFICATION 13.10: the numbers that a read or write is refused by, 8 aside
abbrev pub byte_numbers : List ℕ
byte_numbers = 9 ∷ 10 ∷ 13 ∷ 16 ∷ 17 ∷ []

-- refused by one of them
abbrev pub RefusedByte : Answer → Type 0
RefusedByte a = (n : ℕ) × (a ≡ Refused n) × T (member n byte_numbers)

-- what each is answered by, refusal 8 aside: a call of the pool as before, and a begin by 16 too
unfoldable pub ListedOn : Pool → Request → Answer → Type 0
ListedOn p (Asks (Begin c g)) a = Listed p (Begin c g) a ⊎ (a ≡ Refused 16)
ListedOn p (Asks (Step c)) a = Listed p (Step c) a
ListedOn p (Asks (Release c g)) a = Listed p (Release c g) a
ListedOn p (ReadByte c g o) a = ((v : ℕ) × (a ≡ Done v)) ⊎ RefusedByte a
ListedOn p (WriteByte c g o v) a = (a ≡ Done g) ⊎ RefusedByte a

-- of every state, from wherever it was handed: one of these or 8
abbrev pub ClaimListedOn : Type 0
ClaimListedOn = (x : State) (r : Request) → ((call_on x r).answer ≡ Refused 8) ⊎ ListedOn x.pool r (call_on x r).answer

-- the state passes check 8, whatever is asked of it
abbrev pub Passes8 : State → Type 0
Passes8 x = (valid x.pool ≡ true) × (bytes_ok x.pool x.memory ≡ true) × ((r : Request) → store_ok x r ≡ true)

-- in a run every state does, a client at stage 4 finds a frame, and each answer is listed, so never 8
pub record AnsweredOn (x : State) (rs : List Request) : Type 0 where
  pub in_range : ThroughoutOn Passes8 x rs
  pub finds : ThroughoutOn (λ y. (c : ℕ) → (client y.pool c).stage ≡ 4 → free_frame y.pool < total y.pool) x rs
  pub listed : (n : ℕ) (h : Happening) → At (λ y. y ≡ h) (happenings x rs) n → ListedOn h.before.pool h.asked h.answer

-- of every list from an accepted setup
abbrev pub ClaimAnswersOn : Type 0
ClaimAnswersOn = (x : State) → SetUpOn x → (rs : List Request) → AnsweredOn x rs

-- ---- refusals, of every state

-- SPECIFICATION 13.12: by every number but 15 nothing changes, neither pool nor bytes, marks or store, and nothing is counted
abbrev pub ClaimTurnedDownOn : Type 0
ClaimTurnedDownOn =
    (x : State) (r : Request) (n : ℕ) → (call_on x r).answer ≡ Refused n → n ≢ 15 → ((call_on x r).state ≡ x) × ((call_on x r).counted ≡ Nothing)

-- SPECIFICATION 13.12: request r is a step, its client comes to rest, and nothing else changes
abbrev pub RestsRefusedOn : State → Request → Type 0
RestsRefusedOn x r =
    (c : ℕ) × (r ≡ Asks (Step c))
    × ((call_on x r).state ≡ record { pool = with_client x.pool c (resting (client x.pool c).held); memory = x.memory; store = x.store })
    × ((call_on x r).counted ≡ Refusal)

-- of every state, from wherever it was handed
abbrev pub ClaimRefusedOn : Type 0
ClaimRefusedOn = (x : State) (r : Request) → (call_on x r).answer ≡ Refused 15 → RestsRefusedOn x r

-- a client refused by 15 has met each slot busy, whatever was read and written meanwhile
abbrev pub ClaimBusySweepOn : Type 0
ClaimBusySweepOn = (x : State) → SetUpOn x → (rs : List Request) → BusySweep x.pool.size (amid (happenings x rs))

-- GUARANTEE 23: a frame starts with its page's first count, and unless another 4 takes it, its count is lowered at least so often before a 14 evicts it,
-- whatever was read and written meanwhile
abbrev pub ClaimLastsOn : Type 0
ClaimLastsOn = (x : State) → SetUpOn x → (rs : List Request) → Lasts (amid (happenings x rs))

-- a step of client c, as a request
abbrev pub asks_step : ℕ → Request
asks_step c = Asks (Step c)

-- GUARANTEE 24: of so many accepted steps one is an answer, whatever was read and written between them
abbrev pub ClaimProgressOn : Type 0
ClaimProgressOn =
    (x : State) → SetUpOn x → (rs : List Request)
    → let run = amid (happenings x rs) in
    GetsThrough x.pool.size (number_of_clients x.pool) x.pool.cap (run AcceptedStep) (run Answers)

-- ---- pages that came and pages that left

-- each request of a run counts them; reads and writes, by which no page comes or leaves, count nothing (`LeavesPool`)
abbrev pub ClaimDropsOn : Type 0
ClaimDropsOn =
    (x : State) → SetUpOn x → (rs : List Request) (r : Request)
    → let now = state_after x rs in
    CountsPages now.pool (call_on now r).counted (call_on now r).state.pool

-- one tally that goes from call to call
unfoldable pub tally_on : Tally → List Happening → Tally
tally_on t [] = t
tally_on t (h ∷ hs) = tally_on (tallied h.counted t) hs

-- the tally's sum
abbrev pub ClaimSumOn : Type 0
ClaimSumOn = (x : State) → SetUpOn x → (rs : List Request) → AddsUp (state_after x rs).pool (tally_on zero_tally (happenings x rs))

-- ---- the limits of steps

-- of n + 1 steps of client c, with no other call, the last is granted; and it is granted at one of its first n
abbrev pub GrantedAtLastOn : State → ℕ → ℕ → Type 0
GrantedAtLastOn x c n = amid (happenings x (replicate (suc n) (Asks (Step c)))) (GrantedTo c) n

abbrev pub GrantedWithinOn : State → ℕ → ℕ → Type 0
GrantedWithinOn x c n = (i : ℕ) × (i < n) × GrantedAtLastOn x c i

-- client b begins on page g in state x, of s slots
abbrev pub WithinLimitsOn : State → ℕ → ℕ → ℕ → Type 0
WithinLimitsOn x s b g =
    let y = (call_on x (Asks (Begin b g))).state in
    (resident x.pool g ≡ true → GrantedWithinOn y b 3)
    × (resident x.pool g ≡ false → (i : ℕ) → i < x.pool.size → slot x.pool i ≡ none → GrantedWithinOn y b (s + 7))

-- after any list, if all clients rest then and the begin is done
abbrev pub ClaimLimitsOn : Type 0
ClaimLimitsOn =
    (x : State) → SetUpOn x → (rs : List Request) (b g : ℕ)
    → let now = state_after x rs in
    ((d : ℕ) → (client now.pool d).stage ≡ 0) → (call_on now (Asks (Begin b g))).answer ≡ Done g → WithinLimitsOn now x.pool.size b g

-- ---- holdings

-- in a run they are those of the pool alone
abbrev pub ClaimHoldingsOn : Type 0
ClaimHoldingsOn =
    (x : State) → SetUpOn x → (rs : List Request)
    → ThroughoutOn (λ y. (c : ℕ) (rows : List Row) → holdings_on (buffer_pool y) c rows ≡ holdings_of y.pool c rows) x rs

-- ---- without a store

-- what a request leaves, without memory and store
abbrev pub outcome_on : Result → Outcome
outcome_on o = record { answer = o.answer; counted = o.counted; pool = o.state.pool }

-- each call answers, counts and does to the pool what `call_of` says
unfoldable pub AsBefore : State → List Call → Type 0
AsBefore x [] = Unit {0}
AsBefore x (call ∷ calls) = (outcome_on (call_on x (Asks call)) ≡ call_of x.pool call) × AsBefore (call_on x (Asks call)).state calls

-- GUARANTEE 18, SPECIFICATION 13.5: of every list of begins, steps and releases, if setup was lent no byte
abbrev pub ClaimAsBefore : Type 0
ClaimAsBefore = (x : State) → SetUpOn x → x.store ≡ [] → (calls : List Call) → AsBefore x calls

-- ---- the store's length, of every state

-- SPECIFICATION 13.4: no call changes how many pages the store has, or how many bytes it is
abbrev pub ClaimSameLength : Type 0
ClaimSameLength =
    (x : State) (r : Request)
    → ((call_on x r).state.memory.pages ≡ x.memory.pages) × (length (call_on x r).state.store ≡ length x.store)

-- ---- check 8 of the bytes, of every pool and memory

-- with a store each page number is one of its pages: a frame's, a used entry's, that of the page which a working client wants, a grant's; without one
-- no frame has a mark
pub record SoundBytes (p : Pool) (m : Memory) : Type 0 where
  pub few : m.pages ≤ max_pages
  pub frames : m.pages ≢ 0 → (f : ℕ) → f < total p → page p f < m.pages
  pub entries : m.pages ≢ 0 → (i : ℕ) → entry_frame p i ≢ none → entry_page p i < m.pages
  pub wanted : m.pages ≢ 0 → (c : ℕ) → (client p c).stage ≢ 0 → (client p c).page < m.pages
  pub grants : m.pages ≢ 0 → (c i : ℕ) → i < (client p c).held → grant_page p c i < m.pages
  pub unmarked : m.pages ≡ 0 → (f : ℕ) → f < total p → (is_filled m f ≡ false) × (is_changed m f ≡ false)

-- GUARANTEE 19, SPECIFICATION 13.11: this, and no more, is what check 8 asks of the bytes
abbrev pub ClaimCheck8 : Type 0
ClaimCheck8 = (p : Pool) (m : Memory) → (bytes_ok p m ≡ true) ↔ SoundBytes p m

-- ---- what the action does to bytes, of every state that passed the checks

-- GUARANTEE 19, SPECIFICATION 13.11: every page number is inside the store again, and no mark is on without one: a second look at them would find nothing
abbrev pub ClaimInsideAfter : Type 0
ClaimInsideAfter = (x : State) (r : Request) → refusal_on x r ≡ 0 → bytes_ok (call_on x r).state.pool (call_on x r).state.memory ≡ true

module _ (x : State) (k : Client) where
  -- whether a client at 17 finds its victim's entry, and one at 22 the entry of the frame that it found; these are the entries that go
  abbrev pub Removes : Type 0
  Removes = (k.stage ≡ 17) × (lookup x.pool (page x.pool k.victim) ≡ k.victim)

  abbrev pub Remaps : Type 0
  Remaps = (k.stage ≡ 22) × (lookup x.pool k.page ≡ k.found)

  -- the victim's bytes in their page's place, if they were changed
  abbrev pub victim_stored : List ℕ
  victim_stored =
      choose (is_changed x.memory k.victim) (copied_page x.store (page x.pool k.victim) x.memory.bytes k.victim) x.store

  -- what a step of client k that is not refused leaves of memory and store
  pub data ByStage (m : Memory) (s : List ℕ) : Type 0 where
    -- SPECIFICATION 13.6
    takes : k.stage ≡ 4 → m ≡ unmarked x.memory (free_frame x.pool) → s ≡ x.store → ByStage m s
    -- SPECIFICATION 13.7
    writes_back : Removes → m ≡ x.memory → s ≡ victim_stored → ByStage m s
    -- SPECIFICATION 13.8
    moves_bytes : Remaps → m ≡ moved x.memory k.found k.own → s ≡ x.store → ByStage m s
    -- at 18, too: where its entry is put there was none
    otherwise : k.stage ≢ 4 → (Removes → ⊥) → (Remaps → ⊥) → m ≡ x.memory → s ≡ x.store → ByStage m s

-- GUARANTEE 19, SPECIFICATION 13.7, 13.8: the store is written exactly where a stage 17 removes an entry, bytes move exactly where a stage 22 replaces one; begins
-- and releases do neither.
abbrev pub ClaimByStage : Type 0
ClaimByStage =
    (x : State) (call : Call) → refusal_on x (Asks call) ≡ 0 → refused (call_on x (Asks call)).answer ≡ false
    → let y = (call_on x (Asks call)).state in
    ((c : ℕ) → call ≡ Step c → ByStage x (client x.pool c) y.memory y.store)
    × (((c : ℕ) → call ≢ Step c) → (y.memory ≡ x.memory) × (y.store ≡ x.store))

-- ---- GUARANTEE 17 to 19: all of it

-- of lists from an accepted setup, and of every state
pub record GuaranteeOn : Type 0 where
  pub point3 : ClaimPoint3On
  pub listed : ClaimListedOn
  pub answers : ClaimAnswersOn
  pub turned_down : ClaimTurnedDownOn
  pub refused : ClaimRefusedOn
  pub busy_sweep : ClaimBusySweepOn
  pub lasts : ClaimLastsOn
  pub progress : ClaimProgressOn
  pub drops : ClaimDropsOn
  pub sum : ClaimSumOn
  pub limits : ClaimLimitsOn
  pub holdings : ClaimHoldingsOn
  pub as_before : ClaimAsBefore
  pub same_length : ClaimSameLength
  pub check_8 : ClaimCheck8
  pub inside_after : ClaimInsideAfter
  pub by_stage : ClaimByStage
