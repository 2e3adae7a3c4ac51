-- GUARANTEE 7, refused in company: what a client has met when it is refused by 15, whatever the others did meanwhile. `Claims.antt` takes the claim
-- in. Statements only. Assumes nothing.
use Rattle.std.specs.Prelude.{◌≡◌, ◌≢◌, ◌⊎◌, List, ℕ, ◌≤◌, ◌<◌}
use Rattle.pool.specs.State.{none, pinned, slot, pins, client}
use Rattle.pool.specs.Calls.{SetUp}
use Rattle.pool.specs.declared.Pool.{Pool}
use Rattle.pool.specs.declared.Call.{Call}
use Rattle.pool.specs.declared.Call.TheVariants.{Step}
use Rattle.pool.specs.declared.Answer.TheVariants.{Refused}
use Rattle.guarantee.specs.Runs.{Event, events, Run, along, StepAt, Begins, SameRequest, ExactlyOne}

-- ---- one event

-- A client's sweep visits a slot, its `place`, in one step or in two: at 11 it looks at the slot, and if a frame stands there, then its `victim`, it
-- reads the frame's pins at 12. Client c meets slot i busy: the slot is empty at 11, or at 12 the frame, which still stands there, has pins above 0.
pub data MeetsBusy (c i : ℕ) (e : Event) : Type 0 where
  finds_empty : StepAt c 11 e → (client e.before c).place ≡ i → slot e.before i ≡ none → MeetsBusy c i e
  finds_pinned : StepAt c 12 e → (client e.before c).place ≡ i → (client e.before c).victim ≡ slot e.before i
      → pinned 0 < pins e.before (slot e.before i) → MeetsBusy c i e

-- a busy visit of client c, to one of s slots
abbrev pub BusyVisit : ℕ → ℕ → Event → Type 0
BusyVisit s c e = (i : ℕ) × (i < s) × MeetsBusy c i e

-- the slot is not empty at 11: the visit goes on at 12
abbrev pub SeesFrame : ℕ → Event → Type 0
SeesFrame c e = StepAt c 11 e × (slot e.before (client e.before c).place ≢ none)

abbrev pub Refused15 : ℕ → Event → Type 0
Refused15 c e = (e.asked ≡ Step c) × (e.answer ≡ Refused 15)

-- ---- along a run

-- After event k and up to event n client c meets each of s slots busy, one after the other. Its steps there are busy visits, and looks at 11 that see
-- a frame; the last step, at n, is a busy visit; and each slot is met busy once. So these are its last s visits.
pub record MeetsAllBusy (s : ℕ) (run : Run) (c k n : ℕ) : Type 0 where
  pub only_busy : (m : ℕ) → k < m → m ≤ n → run (λ e. e.asked ≡ Step c) m → run (λ e. SeesFrame c e ⊎ BusyVisit s c e) m
  pub ends_busy : run (BusyVisit s c) n
  pub each_once : (i : ℕ) → i < s → ExactlyOne (MeetsBusy c i) run k n

-- what is claimed of an answer 15 to client c at event n, in a pool of s slots: the request is begun at event `begin`, and after a later event, `since`,
-- the client has met all slots busy
pub record BusySince (s : ℕ) (run : Run) (c n : ℕ) : Type 0 where
  pub begin : ℕ
  pub begun : run (Begins c) begin
  pub same_request : SameRequest run c begin n
  pub since : ℕ
  pub after_begin : begin < since
  pub before_answer : since < n
  pub meets_all : MeetsAllBusy s run c since n

abbrev pub BusySweep : ℕ → Run → Type 0
BusySweep s run = (c n : ℕ) → run (Refused15 c) n → BusySince s run c n

abbrev pub ClaimBusySweep : Type 0
ClaimBusySweep = (p : Pool) → SetUp p → (calls : List Call) → BusySweep p.size (along (events p calls))
