-- The worked cases of the frames' bytes and marks and of the store (SPECIFICATION, section 13), as one table. A case is a state, the calls that lead
-- up to it, and then line by line what is called and answered, which store the caller lends from there on, and what the numbers are. Assumes nothing.
use Rattle.std.specs.Prelude.{◌≡◌, Bool, true, false, not, List, [], ◌∷◌, ◌++◌, map, ℕ, zero, suc, ◌+◌, ◌*◌, get_or, replicate, set}
use Rattle.pool.specs.Choose.{choose}
use Rattle.pool.specs.State.{none, evicted, pinned, resting}
use Rattle.pool.specs.Table.{lookup}
use Rattle.pool.specs.Moves.{standing, with_own, with_found, with_victim, wanting, completes}
use Rattle.pool.specs.Apply.{apply}
use Rattle.pool.specs.Calls.{fresh}
use Rattle.pool.specs.Holdings.{listed}
use Rattle.pool.specs.Cases.{steps, admit, swap, fills, sweeps, evicts, handed, handed_on, with_client, with_write, holder, row_of, filler}
use Rattle.pool.specs.declared.Pool.{Pool}
use Rattle.pool.specs.declared.Call.{Call}
use Rattle.pool.specs.declared.Call.TheVariants.{Begin, Step, Release}
use Rattle.pool.specs.declared.Answer.{Answer}
use Rattle.pool.specs.declared.Answer.TheVariants.{Done, Working, Granted, Refused}
use Rattle.pool.specs.declared.Counted.{Counted}
use Rattle.pool.specs.declared.Counted.TheVariants.{Nothing, Drop, Revived}
use Rattle.pool.specs.declared.GrantChange.TheVariants.{Same, Open}
use Rattle.pool.specs.declared.Write.TheVariants.{Keep, PutPins, TakeFrame, PutEntry}
use Rattle.memory.specs.Memory.{page_bytes, is_filled, is_changed, byte, store_byte, blank, content}
use Rattle.memory.specs.Requests.{Request, Asks, ReadByte, WriteByte, State, turned_back, length_ok, setup_on, bytes_ok, in_order, call_on, buffer_pool, holdings_on}
use Rattle.memory.specs.Happenings.{state_after}
use Rattle.memory.specs.declared.Memory.{Memory}

-- a line of a case: a call and its answer, a number of the state, as it is by then, and its value, or the store that the caller lends from there on
infix 90 ◌gets◌ ◌is◌
pub data Line : Type 0 where
  ◌gets◌ : Request → Answer → Line
  ◌is◌ : (State → ℕ) → ℕ → Line
  lending : List ℕ → Line

pub record Case : Type 0 where
  pub first : State
  -- the calls that lead up to the case
  pub before : List Request
  pub lines : List Line

infix 10 ◌after◌shows◌
abbrev pub ◌after◌shows◌ : State → List Request → List Line → Case
x after before shows lines = record { first = x; before = before; lines = lines }

-- ---- stores and states

-- n numbers from i on
abbrev pub from : ℕ → ℕ → List ℕ
from i zero = []
from i (suc n) = i ∷ from (i + 1) n

-- A store of n pages, 4 at most, whose bytes all differ: page g has 64 g + o at offset o.
abbrev pub counting : ℕ → List ℕ
counting n = from 0 (page_bytes * n)

-- one of n bytes, all of them 7
abbrev pub sevens : ℕ → List ℕ
sevens n = replicate n 7

-- S slots and T clients, set up with a store. The count cap is 1, so that a sweep takes the first slot whose page nobody holds, an index page's too.
abbrev pub set_up : ℕ → ℕ → List ℕ → State
set_up s t store = (setup_on s t 1 0 store).state

abbrev pub state_with : Pool → Memory → List ℕ → State
state_with p m store = record { pool = p; memory = m; store = store }

-- a handed pool with a store of n pages, and no marks
abbrev pub handed_with : ℕ → Pool → State
handed_with n p = state_with p (blank n) (counting n)

-- a mark's byte, off or on
abbrev pub mark_byte : Bool → ℕ
mark_byte on = choose on 1 0

-- frame f's marks, filled and changed, as bytes
abbrev pub marking : Memory → ℕ → ℕ → ℕ → Memory
marking m f a b = record { pages = m.pages; bytes = m.bytes; filled = set m.filled f a; changed = set m.changed f b }

-- bytes of frame 0, at its offsets 5 and 63, that no page of the store has there
abbrev pub with_bytes : Memory → Memory
with_bytes m = record { pages = m.pages; bytes = set (set m.bytes 5 99) 63 98; filled = m.filled; changed = m.changed }

-- a handed pool with three pages and these bytes, and the marks of frames 0 and 1
abbrev pub marked : Pool → Bool → Bool → Bool → Bool → State
marked p a b c d = state_with p (marking (marking (with_bytes (blank 3)) 0 (mark_byte a) (mark_byte b)) 1 (mark_byte c) (mark_byte d)) (counting 3)

-- ---- calls

abbrev pub calls : List Call → List Request
calls l = map Asks l

abbrev pub step : ℕ → Request
step c = Asks (Step c)

-- ---- calls with their answers

-- client c steps, and stands at these stages after it
abbrev pub goes : ℕ → List ℕ → List Line
goes c stages = map (λ i. step c gets Working i) stages

abbrev pub begins : ℕ → ℕ → List ℕ → List Line
begins c g stages = Asks (Begin c g) gets Done g ∷ goes c stages

abbrev pub releases : ℕ → ℕ → Line
releases c g = Asks (Release c g) gets Done g

-- client c reads byte b of page g at offset o; writes it there
abbrev pub reads : ℕ → ℕ → ℕ → ℕ → Line
reads c g o b = ReadByte c g o gets Done b

abbrev pub writes : ℕ → ℕ → ℕ → ℕ → Line
writes c g o b = WriteByte c g o b gets Done g

-- ---- numbers of the state: of a frame, a page, or one of their offsets, as in `in_frame 0 at 5`

infix 91 ◌at◌
abbrev pub ◌at◌ : (State → ℕ → ℕ) → ℕ → State → ℕ
◌at◌ number i x = number x i

-- a frame's marks, as one number
abbrev pub no_marks : ℕ
no_marks = 0

abbrev pub just_filled : ℕ
just_filled = 1

abbrev pub just_changed : ℕ
just_changed = 2

abbrev pub both_marks : ℕ
both_marks = 3

abbrev pub marks : State → ℕ → ℕ
marks x f = choose (is_filled x.memory f) just_filled 0 + choose (is_changed x.memory f) just_changed 0

abbrev pub in_frame : ℕ → State → ℕ → ℕ
in_frame f x o = byte x.memory f o

abbrev pub in_store : ℕ → State → ℕ → ℕ
in_store g x o = store_byte x.store g o

-- what a page holds, wherever that is
abbrev pub on_page : ℕ → State → ℕ → ℕ
on_page g x o = content x.pool x.memory x.store g o

-- the frame that the table has for a page
abbrev pub frame : State → ℕ → ℕ
frame x g = lookup x.pool g

-- ---- one action each, on handed states: whatever marks frame 0 has, off or on

-- client 0 holds page 2 in frame 1, and page 1 in frame 0
abbrev pub holds_two : Pool
holds_two = handed_on (handed (resting 1) (Open 0 2 1) Keep) (resting 2) (Open 1 1 0) Keep

-- A read of page 1 fills the frame that has it, if it is not filled: the whole of it, from that page. The mark changed and the other frame stay as
-- they are.
abbrev pub reading_of : Bool → Bool → ℕ → ℕ → ℕ → Case
reading_of a b left byte last =
    marked holds_two a b false false after [] shows
    reads 0 1 5 byte ∷ marks at 0 is left ∷ in_frame 0 at 63 is last ∷ marks at 1 is no_marks ∷ in_frame 1 at 0 is 0 ∷ in_store 1 at 5 is 69 ∷ []

-- So does a write of page 1. Then the frame has the byte, and is changed.
abbrev pub writing_of : Bool → Bool → ℕ → ℕ → Case
writing_of a b byte last =
    marked holds_two a b false false after [] shows
    writes 0 1 6 97 ∷ marks at 0 is both_marks ∷ in_frame 0 at 6 is 97 ∷ in_frame 0 at 5 is byte ∷ in_frame 0 at 63 is last
    ∷ marks at 1 is no_marks ∷ in_store 1 at 6 is 70 ∷ []

-- Client 0, at 14, evicts frame 0, its victim, to which page 1 is mapped: its bytes and marks stay, and the store gets nothing yet.
abbrev pub eviction : Case
eviction =
    marked
    (handed_on (handed_on (with_write (PutEntry 0 1 0)) (resting 0) Same (TakeFrame 0 1 (pinned 0) 0))
    (standing (with_victim (with_own (wanting (resting 0) 2) 1) 0) 14) Same Keep)
    true true false false after [] shows
    goes 0 (15 ∷ []) ++ marks at 0 is both_marks ∷ in_frame 0 at 5 is 99 ∷ in_store 0 at 5 is 5 ∷ in_store 1 at 5 is 69 ∷ []

-- Client 0, at 17 and on its way to page 2, removes the entry that maps page 1 to frame 0, its victim. Page 1 of the store, and no other, gets the
-- frame's bytes, all of them, if the frame is changed. Bytes and marks of the frame are left over.
abbrev pub removes : Pool
removes =
    handed_on (with_write (TakeFrame 0 1 evicted 0)) (standing (with_victim (with_own (wanting (resting 0) 2) 1) 0) 17) Same (PutEntry 0 1 0)

abbrev pub removal_of : Bool → Bool → ℕ → ℕ → ℕ → ℕ → Case
removal_of a b left first byte last =
    marked removes a b false false after [] shows
    goes 0 (18 ∷ []) ++ in_store 1 at 0 is first ∷ in_store 1 at 5 is byte ∷ in_store 1 at 63 is last ∷ marks at 0 is left ∷ frame at 1 is none ∷ []

abbrev pub removal_elsewhere : Case
removal_elsewhere =
    marked removes true true false false after [] shows
    goes 0 (18 ∷ []) ++ in_store 0 at 63 is 63 ∷ in_store 2 at 0 is 128 ∷ in_store 2 at 5 is 133 ∷ in_frame 0 at 5 is 99 ∷ marks at 1 is no_marks ∷ []

-- Client 0, at 22, maps page 1 anew, from frame 0 to its own frame 1: that gets all bytes of frame 0 and both its marks, whatever its own were, and
-- frame 0 has none then, and its bytes left over. The store gets nothing.
abbrev pub revives : Pool
revives = handed_on (with_write (PutEntry 0 1 0)) (standing (with_found (with_own (wanting (resting 0) 1) 1) 0) 22) Same Keep

abbrev pub revival_of : Bool → Bool → ℕ → Case
revival_of a b left =
    marked revives a b (not a) (not b) after [] shows
    step 0 gets Granted 1 ∷ marks at 0 is no_marks ∷ marks at 1 is left ∷ in_frame 1 at 5 is 99 ∷ in_frame 1 at 63 is 98 ∷ []

abbrev pub revival_elsewhere : Case
revival_elsewhere =
    marked revives true true false false after [] shows
    step 0 gets Granted 1 ∷ in_frame 0 at 5 is 99 ∷ in_frame 0 at 63 is 98 ∷ in_store 1 at 5 is 69 ∷ []

-- Frame 0's marks are other bytes than 1, and on: frame 1 gets them as they are.
abbrev pub other_bytes : Case
other_bytes =
    state_with revives (marking (with_bytes (blank 3)) 0 2 255) (counting 3) after [] shows
    marks at 0 is both_marks ∷ step 0 gets Granted 1 ∷ marks at 0 is no_marks ∷ marks at 1 is both_marks
    ∷ (λ x. get_or x.memory.filled 1 0) is 2 ∷ (λ x. get_or x.memory.changed 1 0) is 255 ∷ []

-- The client's own frame is the one that it found: 22 leaves its bytes and marks.
abbrev pub revived_in_place : Case
revived_in_place =
    marked (handed_on (with_write (PutEntry 0 1 0)) (standing (with_found (with_own (wanting (resting 0) 1) 0) 0) 22) Same Keep) true true false false
    after [] shows step 0 gets Granted 0 ∷ marks at 0 is both_marks ∷ in_frame 0 at 5 is 99 ∷ []

-- The client holds the page already, in the frame that it found: a grant in its own frame would be its second of the page, so 22 is refused by 8 after
-- its action, and no byte and no mark moves.
abbrev pub revival_refused : Case
revival_refused =
    marked (handed_on (with_write (PutEntry 0 1 0)) (standing (with_found (with_own (wanting (resting 1) 1) 1) 0) 22) (Open 0 1 0) Keep)
    true true false false after [] shows
    step 0 gets Refused 8 ∷ marks at 0 is both_marks ∷ marks at 1 is no_marks ∷ in_frame 1 at 5 is 0 ∷ in_store 1 at 5 is 69 ∷ []

-- Stage 4 takes frame 0 for page 1: its marks go off, its bytes are left over, and the store gets nothing.
abbrev pub taking_of : Bool → Bool → Case
taking_of a b =
    marked (with_client (standing (wanting (resting 0) 1) 4)) a b true true after [] shows
    goes 0 (5 ∷ []) ++ marks at 0 is no_marks ∷ marks at 1 is both_marks ∷ in_frame 0 at 5 is 99 ∷ in_store 1 at 5 is 69 ∷ []

-- ---- runs from a setup

-- A page that is admitted is not filled; its first read fills its whole frame from the store. The second finds the frame filled: its byte is the
-- frame's, whatever store is lent.
abbrev pub fill_and_read : Case
fill_and_read =
    set_up 1 1 (counting 2) after calls (admit 1) shows
    marks at 0 is no_marks ∷ in_frame 0 at 63 is 0 ∷ on_page 1 at 63 is 127 ∷ reads 0 1 5 69
    ∷ marks at 0 is just_filled ∷ in_frame 0 at 0 is 64 ∷ in_frame 0 at 63 is 127 ∷ in_frame 1 at 0 is 0 ∷ on_page 1 at 63 is 127
    ∷ lending (sevens 128) ∷ reads 0 1 6 70 ∷ in_store 1 at 6 is 7 ∷ []

-- A write fills the frame as a read does. Its byte is read back, and its neighbours are the store's, which does not have the byte. The frame is
-- changed from the write on. The second write finds the frame filled, and the other client that holds the page reads the byte.
abbrev pub write_and_read : Case
write_and_read =
    set_up 1 2 (counting 2) after calls (admit 1 ++ Begin 1 1 ∷ steps 1 3) shows
    marks at 0 is no_marks ∷ writes 0 1 5 99 ∷ marks at 0 is both_marks ∷ in_store 1 at 5 is 69 ∷ reads 0 1 5 99 ∷ reads 0 1 4 68 ∷ reads 0 1 6 70
    ∷ writes 0 1 6 98 ∷ reads 1 1 5 99 ∷ reads 1 1 6 98 ∷ marks at 1 is no_marks ∷ []

-- Page 0 is written, and loses its only slot to page 1. The store gets the byte in the very action that removes the page's entry, and nothing before
-- it; the frame's bytes and marks are left over. The page is then admitted to another frame, which is filled from the store. Page 1 was not written,
-- and the store keeps its bytes as they were.
abbrev pub dropped_and_back : Case
dropped_and_back =
    set_up 1 1 (counting 2) after calls (admit 0) ++ WriteByte 0 0 5 99 ∷ calls (Release 0 0 ∷ []) shows
    begins 0 1 (sweeps ++ 12 ∷ 13 ∷ 14 ∷ 15 ∷ 16 ∷ 17 ∷ []) ++ in_store 0 at 5 is 5 ∷ on_page 0 at 5 is 99
    ∷ goes 0 (18 ∷ []) ++ in_store 0 at 5 is 99 ∷ in_store 0 at 6 is 6 ∷ in_store 1 at 5 is 69 ∷ on_page 0 at 5 is 99 ∷ frame at 0 is none
    ∷ marks at 0 is both_marks ∷ in_frame 0 at 5 is 99
    ∷ step 0 gets Granted 1 ∷ marks at 1 is no_marks ∷ reads 0 1 5 69 ∷ releases 0 1
    ∷ begins 0 0 (sweeps ++ evicts) ++ in_store 1 at 5 is 69 ∷ step 0 gets Granted 2 ∷ reads 0 0 5 99 ∷ reads 0 0 6 6 ∷ marks at 2 is just_filled ∷ []

-- All three frames were taken for a page: the next request takes frame 0 again, which is left over with both marks on. Stage 4 puts them off and
-- leaves the bytes; page 3, which gets the frame, is filled from the store.
abbrev pub taken_anew : Case
taken_anew =
    set_up 1 1 (counting 4) after
    calls (admit 0) ++ WriteByte 0 0 5 99 ∷ calls (Release 0 0 ∷ swap 1 ++ Release 0 1 ∷ swap 2 ++ Release 0 2 ∷ []) shows
    begins 0 3 (4 ∷ []) ++ marks at 0 is both_marks ∷ goes 0 (5 ∷ []) ++ marks at 0 is no_marks ∷ in_frame 0 at 5 is 99
    ∷ goes 0 (10 ∷ 11 ∷ evicts) ++ step 0 gets Granted 0 ∷ marks at 0 is no_marks ∷ in_frame 0 at 5 is 99 ∷ on_page 3 at 5 is 197
    ∷ reads 0 3 5 197 ∷ marks at 0 is just_filled ∷ in_store 0 at 5 is 99 ∷ []

-- Client 0 has evicted written page 0 and stands at 17 when client 1 maps the page anew at 22: bytes and both marks are in the new frame then, and
-- the old one has its bytes left over and no marks. The late 17 finds the page with another frame, and writes nothing. Since the mark has moved,
-- the store gets the byte when the page loses that frame, too.
abbrev pub revived : Case
revived =
    set_up 2 2 (counting 3) after
    calls (admit 0) ++ WriteByte 0 0 5 99 ∷ calls (Release 0 0 ∷ admit 1 ++ Release 0 1 ∷ Begin 0 2 ∷ steps 0 10) shows
    begins 1 0 (2 ∷ sweeps ++ evicts ++ 19 ∷ 22 ∷ []) ++ marks at 0 is both_marks ∷ marks at 3 is no_marks ∷ on_page 0 at 5 is 99
    ∷ step 1 gets Granted 3 ∷ marks at 0 is no_marks ∷ marks at 3 is both_marks ∷ in_frame 0 at 5 is 99 ∷ in_frame 3 at 5 is 99 ∷ in_frame 3 at 6 is 6
    ∷ reads 1 0 5 99 ∷ goes 0 (18 ∷ []) ++ in_store 0 at 5 is 5 ∷ frame at 0 is 3 ∷ step 0 gets Granted 2 ∷ reads 1 0 5 99 ∷ releases 1 0
    ∷ begins 1 1 (sweeps ++ 12 ∷ 11 ∷ 12 ∷ 13 ∷ 14 ∷ 15 ∷ 16 ∷ 17 ∷ []) ++ in_store 0 at 5 is 5
    ∷ goes 1 (18 ∷ []) ++ in_store 0 at 5 is 99 ∷ on_page 0 at 5 is 99 ∷ []

-- With a cap of 3 the sweep for page 5 passes index page 3 by and evicts page 4. So page 4's byte goes to the store, and page 3's stays in its frame.
abbrev pub index_written : Case
index_written =
    (setup_on 2 1 3 0 (sevens 384)).state after
    calls (admit 3) ++ WriteByte 0 3 5 99 ∷ calls (Release 0 3 ∷ admit 4) ++ WriteByte 0 4 5 98 ∷ calls (Release 0 4 ∷ Begin 0 5 ∷ steps 0 15) shows
    in_store 3 at 5 is 7 ∷ in_store 4 at 5 is 98 ∷ frame at 3 is 0 ∷ frame at 4 is none ∷ begins 0 3 (2 ∷ 3 ∷ []) ++ step 0 gets Granted 0
    ∷ reads 0 3 5 99 ∷ []

-- A request that is refused by 15, with written page 0 held in the only slot, leaves bytes, marks and store.
abbrev pub refused_by15 : Case
refused_by15 =
    set_up 1 1 (counting 2) after calls (admit 0) ++ WriteByte 0 0 5 99 ∷ [] shows
    begins 0 1 (sweeps ++ 12 ∷ []) ++ step 0 gets Refused 15 ∷ marks at 0 is both_marks ∷ marks at 1 is no_marks ∷ in_frame 0 at 5 is 99
    ∷ in_store 0 at 5 is 5 ∷ frame at 0 is 0 ∷ reads 0 0 5 99 ∷ []

-- A store of another length than at setup is refused by 8 at a step, a read and a write, before all other refusals. A begin and a release are not lent
-- it and go on. With the right store the client's request goes on where it was.
abbrev pub wrong_store : Case
wrong_store =
    set_up 1 1 (counting 1) after calls (admit 0) shows
    lending (sevens 63) ∷ ReadByte 0 0 5 gets Refused 8 ∷ WriteByte 0 0 5 99 gets Refused 8 ∷ step 0 gets Refused 8 ∷ ReadByte 1 9 64 gets Refused 8
    ∷ marks at 0 is no_marks ∷ releases 0 0 ∷ begins 0 0 [] ++ lending (sevens 65) ∷ step 0 gets Refused 8 ∷ lending [] ∷ step 0 gets Refused 8
    ∷ lending (sevens 128) ∷ step 0 gets Refused 8 ∷ lending (sevens 64) ∷ goes 0 (2 ∷ 3 ∷ []) ++ step 0 gets Granted 0 ∷ reads 0 0 5 7 ∷ []

-- Without a store every page may be begun on, and a read or write of a held page is refused by 16, whatever its offset. A store that is lent all the
-- same has a wrong length.
abbrev pub storeless : Case
storeless =
    set_up 1 1 [] after [] shows
    begins 0 4294967295 fills ++ step 0 gets Granted 0 ∷ ReadByte 0 4294967295 0 gets Refused 16 ∷ ReadByte 0 4294967295 64 gets Refused 16
    ∷ WriteByte 0 4294967295 0 9 gets Refused 16 ∷ WriteByte 0 4294967295 64 9 gets Refused 16 ∷ ReadByte 0 0 64 gets Refused 13
    ∷ marks at 0 is no_marks ∷ lending (sevens 64) ∷ ReadByte 0 4294967295 0 gets Refused 8 ∷ begins 0 3 [] ++ step 0 gets Refused 8 ∷ []

-- ---- what a case comes to

-- what a line says: an answer, or a number's value
pub data Said : Type 0 where
  answer : Answer → Said
  value : ℕ → Said

-- what the lines say, and what a state gives in its place
abbrev pub said : List Line → List Said
said [] = []
said (r gets a ∷ lines) = answer a ∷ said lines
said (number is v ∷ lines) = value v ∷ said lines
said (lending s ∷ lines) = said lines

unfoldable pub played : State → List Line → List Said
played x [] = []
played x (r gets a ∷ lines) = let o = call_on x r in answer o.answer ∷ played o.state lines
played x (number is v ∷ lines) = value (number x) ∷ played x lines
played x (lending s ∷ lines) = played (state_with x.pool x.memory s) lines

abbrev pub Holds : Case → Type 0
Holds x = played (state_after x.first x.before) x.lines ≡ said x.lines

-- ---- setup

abbrev pub answers_on : List ℕ → List Answer
answers_on lengths = map (λ n. (setup_on 2 1 3 0 (sevens n)).answer) lengths

-- how many pages the pool has then
abbrev pub pages_on : List ℕ → List ℕ
pages_on lengths = map (λ n. (setup_on 2 1 3 0 (sevens n)).state.memory.pages) lengths

-- ---- refusals of handed states

abbrev pub Answers : State → List Request → List Answer → Type 0
Answers x rs answers = map (λ r. (call_on x r).answer) rs ≡ answers

-- client 0's step counts as this
abbrev pub Counts : State → Counted → Type 0
Counts x counted = (call_on x (step 0)).counted ≡ counted

-- a call is refused by n, and leaves the whole state
abbrev pub Untouched : State → Request → ℕ → Type 0
Untouched x r n = call_on x r ≡ turned_back n x

-- client c's read, and its write, of page g at offset o
abbrev pub read_and_write : ℕ → ℕ → ℕ → List Request
read_and_write c g o = ReadByte c g o ∷ WriteByte c g o 9 ∷ []

-- one page of store; client 0 holds it, in frame 0, which has a pin, and rests
abbrev pub holding : State
holding = handed_with 1 (handed_on (holder (0 ∷ [])) (resting 1) Same (PutPins 0 (pinned 1)))

-- n pages of store, and client 0 holds them all
abbrev pub holding_all : ℕ → State
holding_all n = state_with (holder (from 0 n)) (blank n) (sevens (page_bytes * n))

-- one page of store; client 0 holds it, and works on it
abbrev pub working : State
working = handed_with 1 (handed_on (holder []) (wanting (resting 1) 0) (Open 0 0 0) Keep)

-- client 0 holds page 9 of a pool without a store
abbrev pub bare : State
bare = handed_with 0 (holder (9 ∷ []))

-- the state with a store of n bytes
abbrev pub with_store : ℕ → State → State
with_store n x = state_with x.pool x.memory (sevens n)

-- ---- check 8 of handed states

-- a number, and the largest that check 8 lets through
infix 90 ◌up_to◌
pub data Range : Type 0 where
  ◌up_to◌ : (ℕ → State) → ℕ → Range

-- In a store of three pages: the page of the last frame, of an entry at the last place, the one that a working client wants, or another client, those
-- of a client's two grants. And the number of pages.
abbrev pub ranges : List Range
ranges =
    (λ g. handed_with 3 (with_write (TakeFrame 3 g evicted 0))) up_to 2
    ∷ (λ g. handed_with 3 (with_write (PutEntry 3 g 0))) up_to 2
    ∷ (λ g. handed_with 3 (with_client (wanting (resting 0) g))) up_to 2
    ∷ (λ g. handed_with 3 (apply (fresh 2 2 3 0) 1 (completes 0 (wanting (resting 0) g) Same Keep))) up_to 2
    ∷ (λ g. handed_with 3 (handed (resting 1) (Open 0 g 0) Keep)) up_to 2
    ∷ (λ g. handed_with 3 (holder (g ∷ 0 ∷ []))) up_to 2
    ∷ (λ n. state_with (fresh 2 1 3 0) (blank n) []) up_to 256
    ∷ []

-- Pages that are not looked at: of a place without an entry, of a client that rests, of a grant that has ended; and all, where there is no store.
abbrev pub unseen : List State
unseen =
    handed_with 3 (with_write (PutEntry 3 9 none))
    ∷ handed_with 3 (with_client (standing (wanting (resting 0) 9) 0))
    ∷ handed_with 3 (handed (resting 0) (Open 0 9 0) Keep)
    ∷ handed_with 0 (handed_on (with_client (wanting (resting 1) 9)) (wanting (resting 1) 9) (Open 0 9 0) (PutEntry 3 9 0))
    ∷ []

-- a mark of frame f, filled or changed, without a store; the pool has frames 0 to 3
abbrev pub marked_bare : ℕ → Bool → Bool → State
marked_bare f a b = state_with (holder (9 ∷ [])) (marking (blank 0) f (mark_byte a) (mark_byte b)) []

-- each range at its limit, and one past it
abbrev pub at_limit : Range → State
at_limit (state up_to n) = state n

abbrev pub past_limit : Range → State
past_limit (state up_to n) = state (suc n)

abbrev pub sound : List State
sound = map at_limit ranges ++ unseen ++ marked_bare 4 true true ∷ marked (fresh 2 1 3 0) true true true true ∷ []

abbrev pub broken : List State
broken = map past_limit ranges ++ marked_bare 3 true false ∷ marked_bare 3 false true ∷ []

abbrev pub Check8 : List State → Bool → Type 0
Check8 states passes = map (λ x. bytes_ok x.pool x.memory) states ≡ map (λ _. passes) states

-- every kind of call
abbrev pub kinds : List Request
kinds = Asks (Begin 0 0) ∷ Asks (Step 0) ∷ Asks (Release 0 0) ∷ ReadByte 0 0 0 ∷ WriteByte 0 0 0 9 ∷ []

abbrev pub AllRefused : List State → Type 0
AllRefused states = map (λ x. map (λ r. (call_on x r).answer) kinds) states ≡ map (λ _. map (λ _. Refused 8) kinds) states

-- What is proved of the table: a setup takes the stores that it should; each action on a handed state, and each run, comes to its lines; a call is
-- turned down by the first number that applies, and leaves the whole state; check 8 passes the sound states and no broken one.
pub record Proved : Type 0 where
  -- 0, 1 and 256 pages; a byte less than a page, one more, 257 pages
  pub lengths : (map length_ok (0 ∷ 64 ∷ 16384 ∷ []) ≡ true ∷ true ∷ true ∷ []) × (map length_ok (63 ∷ 65 ∷ 16448 ∷ []) ≡ false ∷ false ∷ false ∷ [])
  pub set_ups : (answers_on (0 ∷ 64 ∷ 16384 ∷ []) ≡ Done 2 ∷ Done 2 ∷ Done 2 ∷ []) × (pages_on (0 ∷ 64 ∷ 16384 ∷ []) ≡ 0 ∷ 1 ∷ 256 ∷ [])
  pub made : (setup_on 2 1 3 5 (sevens 64)).state ≡ state_with (fresh 2 1 3 5) (blank 1) (sevens 64)
  pub not_set_up :
      (answers_on (63 ∷ 65 ∷ 16448 ∷ []) ≡ Refused 8 ∷ Refused 8 ∷ Refused 8 ∷ []) × (pages_on (63 ∷ 65 ∷ 16448 ∷ []) ≡ 0 ∷ 0 ∷ 0 ∷ [])
      × Holds (set_up 2 1 (sevens 63) after [] shows Asks (Begin 0 0) gets Refused 8 ∷ [])
      × Holds (set_up 0 1 (sevens 64) after [] shows Asks (Begin 0 0) gets Refused 8 ∷ [])
  pub reads_handed :
      Holds (reading_of false false just_filled 69 127) × Holds (reading_of true false just_filled 99 98) × Holds (reading_of false true both_marks 69 127)
      × Holds (reading_of true true both_marks 99 98)
  pub writes_handed :
      Holds (writing_of false false 69 127) × Holds (writing_of true false 99 98) × Holds (writing_of false true 69 127) × Holds (writing_of true true 99 98)
  pub evictions : Holds eviction
  pub removals :
      Holds (removal_of false false no_marks 64 69 127) × Holds (removal_of true false just_filled 64 69 127)
      × Holds (removal_of false true just_changed 0 99 98) × Holds (removal_of true true both_marks 0 99 98) × Holds removal_elsewhere
  pub revivals :
      Holds (revival_of false false no_marks) × Holds (revival_of true false just_filled) × Holds (revival_of false true just_changed)
      × Holds (revival_of true true both_marks) × Holds revival_elsewhere × Holds other_bytes × Holds revived_in_place × Holds revival_refused
  -- what is counted is what the pool counts
  pub counts : Counts eviction.first Nothing × Counts removal_elsewhere.first Drop × Counts revived_in_place.first Revived
  pub takings : Holds (taking_of false false) × Holds (taking_of true false) × Holds (taking_of false true) × Holds (taking_of true true)
  -- 9, 10, 12, 16, and then 18; a page outside a store is not held, so that of the last two the order alone tells which comes first
  pub begin_refused :
      Answers (holding_all 8) (Asks (Begin 1 8) ∷ Asks (Begin 0 8) ∷ Asks (Begin 0 0) ∷ []) (Refused 9 ∷ Refused 12 ∷ Refused 12 ∷ [])
      × Answers (holding_all 7) (Asks (Begin 0 7) ∷ Asks (Begin 0 6) ∷ []) (Refused 16 ∷ Refused 18 ∷ [])
      × Answers (handed_with 1 (holder [])) (Asks (Begin 0 1) ∷ Asks (Begin 0 0) ∷ []) (Refused 16 ∷ Done 0 ∷ [])
      × Answers working (Asks (Begin 0 1) ∷ Asks (Begin 0 0) ∷ []) (Refused 10 ∷ Refused 10 ∷ []) × Answers bare (Asks (Begin 0 4294967295) ∷ []) (Done 4294967295 ∷ [])
      × Answers bare (Asks (Begin 0 9) ∷ []) (Refused 18 ∷ [])
  pub order :
      (map (λ n. in_order n 16) (0 ∷ 8 ∷ 9 ∷ 10 ∷ 12 ∷ 18 ∷ []) ≡ 16 ∷ 8 ∷ 9 ∷ 10 ∷ 12 ∷ 16 ∷ [])
      × (map (λ n. in_order n 0) (0 ∷ 8 ∷ 9 ∷ 10 ∷ 12 ∷ 18 ∷ []) ≡ 0 ∷ 8 ∷ 9 ∷ 10 ∷ 12 ∷ 18 ∷ [])
  -- 9, 10, 13, 16, and then 17; a page outside a store is not held
  pub bytes_refused :
      Answers working (read_and_write 1 1 64 ++ read_and_write 0 1 64 ++ read_and_write 0 0 0)
      (Refused 9 ∷ Refused 9 ∷ Refused 10 ∷ Refused 10 ∷ Refused 10 ∷ Refused 10 ∷ [])
      × Answers holding (read_and_write 0 1 64 ++ read_and_write 0 0 64 ++ read_and_write 0 0 63)
      (Refused 13 ∷ Refused 13 ∷ Refused 17 ∷ Refused 17 ∷ Done 63 ∷ Done 0 ∷ [])
      × Answers bare (read_and_write 0 8 64 ++ read_and_write 0 9 64 ++ read_and_write 0 9 0)
      (Refused 13 ∷ Refused 13 ∷ Refused 16 ∷ Refused 16 ∷ Refused 16 ∷ Refused 16 ∷ [])
  -- 8 first, at a step, a read and a write; a begin and a release are not lent the store
  pub store_refused :
      Answers (with_store 63 holding) (step 0 ∷ read_and_write 0 0 0 ++ read_and_write 1 1 64) (Refused 8 ∷ Refused 8 ∷ Refused 8 ∷ Refused 8 ∷ Refused 8 ∷ [])
      × Answers (with_store 63 working) (step 0 ∷ read_and_write 0 0 0) (Refused 8 ∷ Refused 8 ∷ Refused 8 ∷ [])
      × Answers (with_store 65 working) (step 0 ∷ read_and_write 0 0 0) (Refused 8 ∷ Refused 8 ∷ Refused 8 ∷ [])
      × Answers (with_store 63 holding) (Asks (Begin 0 0) ∷ Asks (Release 0 0) ∷ []) (Refused 18 ∷ Done 0 ∷ [])
  pub untouched :
      Untouched (with_store 63 holding) (ReadByte 0 0 0) 8 × Untouched (with_store 63 holding) (WriteByte 0 0 0 9) 8 × Untouched (with_store 63 working) (step 0) 8
      × Untouched holding (WriteByte 0 0 64 9) 17 × Untouched bare (WriteByte 0 9 0 9) 16 × Untouched (holding_all 7) (Asks (Begin 0 7)) 16 × Untouched holding (Asks (Begin 0 0)) 18
  pub check8 : Check8 sound true × Check8 broken false × AllRefused broken
  pub holdings :
      (holdings_on (buffer_pool bare) 0 (filler 2) ≡ listed (Done 1) (row_of 9 1 ∷ filler 1))
      × (holdings_on (buffer_pool (marked_bare 3 true false)) 0 (filler 2) ≡ listed (Refused 8) (filler 2))
  pub runs :
      Holds fill_and_read × Holds write_and_read × Holds dropped_and_back × Holds taken_anew × Holds revived × Holds index_written × Holds refused_by15 × Holds wrong_store
      × Holds storeless
