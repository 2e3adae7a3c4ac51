-- The calls of a pool that has bytes: begin, step and release as before, and a read and a write of one byte. What each is turned down by, in checking
-- order, and what it does to pool, memory and store: SPECIFICATION, section 13. Assumes nothing.
use Rattle.std.specs.Prelude.{Bool, true, false, not, List, ℕ, ◌*◌, ◌/◌, ◌%◌, eqb, ltb, leb, length}
use Rattle.pool.specs.Choose.{choose, both, either, every}
use Rattle.pool.specs.State.{none, number_of_clients, total, page, entry_page, entry_frame, client, grant_page, grant_frame}
use Rattle.pool.specs.Grants.{grant_of}
use Rattle.pool.specs.Valid.{numbers_ok}
use Rattle.pool.specs.Calls.{fresh, no_pool, refusal, move_of, call_of}
use Rattle.pool.specs.Tallies.{tallied}
use Rattle.pool.specs.Holdings.{listed, holdings_of}
use Rattle.pool.specs.declared.Pool.{Pool}
use Rattle.pool.specs.declared.Tally.{Tally}
use Rattle.pool.specs.declared.Row.{Row}
use Rattle.pool.specs.declared.Listed.{Listed}
use Rattle.pool.specs.declared.Call.{Call}
use Rattle.pool.specs.declared.Call.TheVariants.{Begin, Step, Release}
use Rattle.pool.specs.declared.Answer.{Answer}
use Rattle.pool.specs.declared.Answer.TheVariants.{Done, Working, Granted, Refused}
use Rattle.pool.specs.declared.Counted.{Counted}
use Rattle.pool.specs.declared.Counted.TheVariants.{Nothing}
use Rattle.pool.specs.declared.Write.{Write}
use Rattle.pool.specs.declared.Write.TheVariants.{Keep}
use Rattle.memory.specs.Memory.{page_bytes, max_pages, byte, is_filled, is_changed, blank, memory_after, store_after, filled_from, written}
use Rattle.memory.specs.declared.Memory.{Memory}
use Rattle.memory.specs.declared.BufferPool.{BufferPool}
use Rattle.memory.specs.declared.Reply.{Reply}
use Rattle.memory.specs.declared.Tallied.{Tallied}

-- SPECIFICATION 13.5: what is asked of a pool that has bytes
pub data Request : Type 0 where
  Asks : Call → Request
  -- client, page, offset
  ReadByte : (c g o : ℕ) → Request
  -- client, page, offset, byte
  WriteByte : (c g o v : ℕ) → Request

-- what calls hand on from one to the next
pub record State : Type 0 where
  pub pool : Pool
  pub memory : Memory
  pub store : List ℕ

pub record Result : Type 0 where
  pub answer : Answer
  pub counted : Counted
  pub state : State

-- SPECIFICATION 13.12: refused by n, with nothing changed
abbrev pub turned_back : ℕ → State → Result
turned_back n x = record { answer = Refused n; counted = Nothing; state = x }

-- ---- setup

-- SPECIFICATION 13.1: no store, or one of 1 to 256 pages
unfoldable pub length_ok : ℕ → Bool
length_ok n = both (eqb (n % page_bytes) 0) (leb n (page_bytes * max_pages))

-- SPECIFICATION 13.3, refusal 8: a setup with a store
unfoldable pub setup_on : ℕ → ℕ → ℕ → ℕ → List ℕ → Result
setup_on s t c h store =
    choose (both (numbers_ok s t c) (length_ok (length store)))
    (record { answer = Done s; counted = Nothing; state = record { pool = fresh s t c h; memory = blank (length store / page_bytes); store = store } })
    (turned_back 8 (record { pool = no_pool; memory = blank 0; store = store }))

-- ---- check 8

-- SPECIFICATION 13.11: whether page g is inside a store of n pages; where there is none, every page is
unfoldable pub inside : ℕ → ℕ → Bool
inside n g = either (eqb n 0) (ltb g n)

-- SPECIFICATION 13.11: the page of an entry; the page that a working client wants, and those of a client's grants
unfoldable pub entry_inside : Pool → ℕ → ℕ → Bool
entry_inside p n i = either (eqb (entry_frame p i) none) (inside n (entry_page p i))

unfoldable pub client_inside : Pool → ℕ → ℕ → Bool
client_inside p n c =
    both (either (eqb (client p c).stage 0) (inside n (client p c).page)) (every (λ i. inside n (grant_page p c i)) (client p c).held)

-- SPECIFICATION 13.11: every page number of the pool
unfoldable pub pages_inside : Pool → ℕ → Bool
pages_inside p n =
    both (every (λ f. inside n (page p f)) (total p)) (both (every (entry_inside p n) (total p)) (every (client_inside p n) (number_of_clients p)))

-- SPECIFICATION 13.11: without a store no mark is on
unfoldable pub unmarked_at : Memory → ℕ → Bool
unmarked_at m f = both (not (is_filled m f)) (not (is_changed m f))

unfoldable pub marks_ok : Pool → Memory → Bool
marks_ok p m = either (not (eqb m.pages 0)) (every (unmarked_at m) (total p))

-- SPECIFICATION 13.11, refusal 8: what check 8 tests of the bytes
unfoldable pub bytes_ok : Pool → Memory → Bool
bytes_ok p m = both (leb m.pages max_pages) (both (pages_inside p m.pages) (marks_ok p m))

-- SPECIFICATION 13.4: the calls that are lent the store
unfoldable pub lent : Request → Bool
lent (Asks (Begin c g)) = false
lent (Asks (Step c)) = true
lent (Asks (Release c g)) = false
lent (ReadByte c g o) = true
lent (WriteByte c g o v) = true

-- SPECIFICATION 13.4, refusal 8: a store that is lent is as long as at setup
unfoldable pub store_ok : State → Request → Bool
store_ok x r = either (not (lent r)) (eqb (length x.store) (page_bytes * x.memory.pages))

-- ---- what turns a call down

-- the first of two numbers that is not 0
unfoldable pub first_of : ℕ → ℕ → ℕ
first_of n k = choose (eqb n 0) k n

-- SPECIFICATION 13.10: n, by which the pool turns a begin down, beside k, which is refusal 16 or 0: this comes before 18 and after all others
unfoldable pub in_order : ℕ → ℕ → ℕ
in_order n k = choose (eqb n 18) (first_of k n) (first_of n k)

-- SPECIFICATION 13.10, refusal 16: a begin of a page outside a store of n pages
unfoldable pub outside_at : ℕ → Call → ℕ
outside_at n (Begin c g) = choose (inside n g) 0 16
outside_at n (Step c) = 0
outside_at n (Release c g) = 0

-- SPECIFICATION 13.10, refusals 16 and 17: a read or write; without a store every page is outside
unfoldable pub byte_refusal : ℕ → ℕ → ℕ → ℕ
byte_refusal n g o = choose (ltb g n) (choose (ltb o page_bytes) 0 17) 16

-- SPECIFICATION 13.10: past the check 8 of bytes and store, in checking order. A read or write is turned down by 8, 9, 10 and 13 as a release is.
unfoldable pub turned_away_by : State → Request → ℕ
turned_away_by x (Asks call) = in_order (refusal x.pool call) (outside_at x.memory.pages call)
turned_away_by x (ReadByte c g o) = first_of (refusal x.pool (Release c g)) (byte_refusal x.memory.pages g o)
turned_away_by x (WriteByte c g o v) = first_of (refusal x.pool (Release c g)) (byte_refusal x.memory.pages g o)

-- SPECIFICATION 13.10: by which number a call is turned down before its action; 0 for none
unfoldable pub refusal_on : State → Request → ℕ
refusal_on x r = choose (both (bytes_ok x.pool x.memory) (store_ok x r)) (turned_away_by x r) 8

-- ---- the action

unfoldable pub refused : Answer → Bool
refused (Done n) = false
refused (Working stage) = false
refused (Granted frame) = false
refused (Refused n) = true

-- SPECIFICATION 13.12: what a call writes to the pool; a refused one nothing, also where it is refused by 15 or, after its action, by 8
unfoldable pub write_of : Pool → Call → Write
write_of p call = choose (refused (call_of p call).answer) Keep (move_of p call).write

-- SPECIFICATION 13.9: the frame of client c's grant of a page
abbrev pub held_frame : Pool → ℕ → ℕ → ℕ
held_frame p c g = grant_frame p c (grant_of p c g)

-- SPECIFICATION 13.5 to 13.9
unfoldable pub action_on : State → Request → Result
action_on x (Asks call) =
    let p = x.pool in
    let o = call_of p call in
    let w = write_of p call in
    record {
      answer = o.answer;
      counted = o.counted;
      state = record { pool = o.pool; memory = memory_after p x.memory w; store = store_after p x.memory x.store w };
    }
action_on x (ReadByte c g o) =
    let f = held_frame x.pool c g in
    let m = filled_from x.memory x.store f g in
    record { answer = Done (byte m f o); counted = Nothing; state = record { pool = x.pool; memory = m; store = x.store } }
action_on x (WriteByte c g o v) =
    let f = held_frame x.pool c g in
    let m = filled_from x.memory x.store f g in
    record { answer = Done g; counted = Nothing; state = record { pool = x.pool; memory = written m f o v; store = x.store } }

-- SPECIFICATION 13.10: a call
unfoldable pub call_on : State → Request → Result
call_on x r =
    let n = refusal_on x r in
    let done = action_on x r in
    choose (eqb n 0) done (turned_back n x)

-- ---- what the code's calls take and return

abbrev pub state_of : BufferPool → List ℕ → State
state_of b s = record { pool = b.pool; memory = b.memory; store = s }

abbrev pub buffer_pool : State → BufferPool
buffer_pool x = record { pool = x.pool; memory = x.memory }

abbrev pub reply : Result → Reply
reply r = record { answer = r.answer; pool = buffer_pool r.state }

-- SPECIFICATION 7.2: with the caller's tally
abbrev pub tallying : Tally → Result → Tallied
tallying t r = record { answer = r.answer; tally = tallied r.counted t; pool = buffer_pool r.state }

-- SPECIFICATION 13.11: holdings, which has no need of the store
unfoldable pub holdings_on : BufferPool → ℕ → List Row → Listed
holdings_on b c rows = choose (bytes_ok b.pool b.memory) (holdings_of b.pool c rows) (listed (Refused 8) rows)
