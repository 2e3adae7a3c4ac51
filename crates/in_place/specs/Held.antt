-- Calls in place: SPECIFICATION, section 14. What a call answers and leaves on any memory at all: 8 where one of its few tests fails, else what the
-- specification's action does, without the whole check 8 before and after it. Assumes nothing.
use Rattle.std.specs.Prelude.{Bool, not, List, ℕ, ◌+◌, ◌*◌, eqb, ltb, leb, length}
use Rattle.pool.specs.Limits.{max_clients, max_held, max_pins}
use Rattle.pool.specs.Choose.{choose, both, either, every}
use Rattle.pool.specs.State.{none, pinned, number_of_clients, pins, client}
use Rattle.pool.specs.Valid.{numbers_ok}
use Rattle.pool.specs.Apply.{apply}
use Rattle.pool.specs.Calls.{caller, turned_by, move_of}
use Rattle.pool.specs.declared.Answer.{Answer}
use Rattle.pool.specs.declared.Answer.TheVariants.{Refused}
use Rattle.pool.specs.declared.Call.{Call}
use Rattle.pool.specs.declared.Call.TheVariants.{Step, Release}
use Rattle.pool.specs.declared.Client.{Client}
use Rattle.pool.specs.declared.Counted.{Counted}
use Rattle.pool.specs.declared.Counted.TheVariants.{Nothing}
use Rattle.pool.specs.declared.Pool.{Pool}
use Rattle.pool.specs.declared.Write.{Write}
use Rattle.pool.specs.declared.Write.TheVariants.{Keep, PutSlot, PutPins, PutCount, TakeFrame, PutEntry, PutHand, PutFree}
use Rattle.memory.specs.Memory.{page_bytes, is_frame, memory_after, store_after}
use Rattle.memory.specs.Requests.{Request, Asks, ReadByte, WriteByte, State, Result, turned_back, store_ok, first_of, in_order, outside_at, byte_refusal, action_on}
use Rattle.content.specs.Effects.{replaced_of}
use Rattle.play.specs.Parts.{pool_of}
use Rattle.client_arrays.specs.Arrays.{clients_from}

-- SPECIFICATION 14.1, 14.2: the pool that lies in these numbers and arrays
abbrev pub pool_from : ℕ → ℕ → ℕ → ℕ → ℕ → ℕ → List ℕ → List ℕ → List ℕ → List ℕ → List ℕ → List ℕ → List ℕ → List ℕ → List ℕ → List ℕ → Pool
pool_from size count cap hand free last slots pages pins counts table_pages table_frames client_bytes client_words grant_pages grant_frames =
    pool_of size count cap hand free last slots pages pins counts table_pages table_frames (clients_from client_bytes client_words) grant_pages grant_frames

-- ---- the tests

-- SPECIFICATION 14.4: of the acting client, and of the frame that it found
unfoldable pub client_fits : ℕ → ℕ → Client → Bool
client_fits size its_pins k =
    both (ltb k.place size) (both (ltb k.busy size) (both (leb k.held max_held) (leb its_pins (pinned max_pins))))

-- SPECIFICATION 14.4: of all clients, where the acting one is at stage 4 and looks for a frame that no client names
unfoldable pub search_fits : Pool → Client → Bool
search_fits p k = either (not (eqb k.stage 4)) (every (λ c. leb (client p c).held max_held) (number_of_clients p))

-- SPECIFICATION 14.4: a call of client c
unfoldable pub fits : Pool → ℕ → Bool
fits p c =
    let k = client p c in
    both (numbers_ok p.size (number_of_clients p) p.cap) (both (client_fits p.size (pins p k.found) k) (search_fits p k))

-- ---- begin, step, release

-- what a call answers, how it counts, what it writes to the pool, and the pool that it leaves
pub record Held : Type 0 where
  pub answer : Answer
  pub counted : Counted
  pub write : Write
  pub pool : Pool

abbrev pub turned_away : ℕ → Pool → Held
turned_away n p = record { answer = Refused n; counted = Nothing; write = Keep; pool = p }

-- the action of a call, put into the pool
abbrev pub acted : Pool → Call → Held
acted p call = let m = move_of p call in record { answer = m.answer; counted = m.counted; write = m.write; pool = apply p (caller call) m }

-- SPECIFICATION 14.4, 14.5: by which number a call is turned down before its action, beside a store of n pages; 0 for none
unfoldable pub held_refusal : Pool → ℕ → Call → ℕ
held_refusal p n call = choose (fits p (caller call)) (in_order (turned_by p call) (outside_at n call)) 8

-- SPECIFICATION 14.5: a call
unfoldable pub held_of : Pool → ℕ → Call → Held
held_of p n call =
    let r = held_refusal p n call in
    let done = acted p call in
    choose (eqb r 0) done (turned_away r p)

-- SPECIFICATION 14.7: what a step tells an owner of larger pages to do with its own buffers in the same action, as a number: what it is, a frame e,
-- and the page that e's content goes back to or the frame that it moves to
abbrev pub duty_word : ℕ → ℕ → ℕ → ℕ
duty_word kind e n = 1099511627776 * kind + 4294967296 * e + n

-- SPECIFICATION 14.7: an entry with frame e gets frame f, or none: it is removed (stage 17)
unfoldable pub duty_at : ℕ → ℕ → ℕ → ℕ
duty_at g e f = choose (is_frame e) (choose (eqb f none) (duty_word 1 e g) (choose (is_frame f) (duty_word 2 e f) 0)) 0

-- SPECIFICATION 14.7: of a write to the pool; e is the frame of the entry that it replaces
unfoldable pub duty_of : ℕ → Write → ℕ
duty_of e Keep = 0
duty_of e (PutSlot i f) = 0
duty_of e (PutPins f x) = 0
duty_of e (PutCount f x) = 0
duty_of e (TakeFrame f g x y) = 0
duty_of e (PutEntry i g f) = duty_at g e f
duty_of e (PutHand h) = 0
duty_of e (PutFree x) = 0

-- ---- with bytes

-- SPECIFICATION 14.4: of a client that reads, writes, or asks what it holds
unfoldable pub holder_fits : Pool → ℕ → Bool
holder_fits p c = both (leb (number_of_clients p) max_clients) (leb (client p c).held max_held)

-- SPECIFICATION 14.4, 14.6: by which number a read or write of page g at offset o by client c is turned down; 0 for none
unfoldable pub byte_held_refusal : State → ℕ → ℕ → ℕ → ℕ
byte_held_refusal x c g o =
    choose (both (eqb (length x.store) (page_bytes * x.memory.pages)) (holder_fits x.pool c))
    (first_of (turned_by x.pool (Release c g)) (byte_refusal x.memory.pages g o)) 8

-- what a call leaves of pool, memory and store
abbrev pub held_state : State → Held → State
held_state x h =
    record { pool = h.pool; memory = memory_after x.pool x.memory h.write; store = store_after x.pool x.memory x.store h.write }

-- a read or write that is turned down by n, or not
abbrev pub byte_held : State → Request → ℕ → Result
byte_held x r n = let done = action_on x r in choose (eqb n 0) done (turned_back n x)

-- SPECIFICATION 14.4 to 14.6, 14.10: a call in place
unfoldable pub held_on : State → Request → Result
held_on x (Asks call) =
    let h = held_of x.pool x.memory.pages call in
    choose (store_ok x (Asks call)) (record { answer = h.answer; counted = h.counted; state = held_state x h }) (turned_back 8 x)
held_on x (ReadByte c g o) = byte_held x (ReadByte c g o) (byte_held_refusal x c g o)
held_on x (WriteByte c g o v) = byte_held x (WriteByte c g o v) (byte_held_refusal x c g o)

-- SPECIFICATION 14.7: what a step of client c tells
unfoldable pub duty_on : State → ℕ → ℕ
duty_on x c =
    let w = (held_of x.pool x.memory.pages (Step c)).write in
    choose (store_ok x (Asks (Step c))) (duty_of (replaced_of x.pool w) w) 0

-- SPECIFICATION 14.1: the state of a pool with these bytes, marks and store
abbrev pub state_from : Pool → ℕ → List ℕ → List ℕ → List ℕ → List ℕ → State
state_from p pages bytes filled changed store =
    record { pool = p; memory = record { pages = pages; bytes = bytes; filled = filled; changed = changed }; store = store }
