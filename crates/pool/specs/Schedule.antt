-- The schedule file and the report: SPECIFICATION, sections 9 and 10. Assumes nothing.
use Rattle.std.specs.Prelude.{Bool, not, List, [], ◌∷◌, ◌++◌, ℕ, zero, suc, ◌+◌, ◌-◌, ◌*◌, ◌/◌, ◌%◌, eqb, ltb, leb, length, get_or, drop}
use Rattle.pool.specs.Choose.{choose, both, either}
use Rattle.pool.specs.Answers.{code_of, value_of, refusal_of}
use Rattle.pool.specs.Calls.{turned_down, no_pool, setup_of, caller, call_of}
use Rattle.pool.specs.declared.Pool.{Pool}
use Rattle.pool.specs.declared.Outcome.{Outcome}
use Rattle.pool.specs.declared.Ended.{Ended}
use Rattle.pool.specs.declared.Answer.{Answer}
use Rattle.pool.specs.declared.Call.TheVariants.{Begin, Step, Release}
use Rattle.pool.specs.declared.Reading.{Reading}
use Rattle.pool.specs.declared.Reading.TheVariants.{Setup, Asked, Unreadable}

-- ---- reading a record at the start of some bytes

abbrev pub byte : List ℕ → ℕ → ℕ
byte s i = get_or s i 0

-- SPECIFICATION 9.1: the number in the four bytes from i on
unfoldable pub number : List ℕ → ℕ → ℕ
number s i = byte s i + 256 * byte s (i + 1) + 65536 * byte s (i + 2) + 16777216 * byte s (i + 3)

-- SPECIFICATION 9.2, refusal 3: whether too few bytes are left
unfoldable pub cut : List ℕ → Bool
cut s = either (ltb (length s) 8) (both (ltb (length s) 10) (eqb (byte s 2) 0))

-- SPECIFICATION 9.1, refusal 4: whether the mark is there
unfoldable pub marked : List ℕ → Bool
marked s = both (eqb (byte s 0) 0x46) (eqb (byte s 1) 0x43)

-- SPECIFICATION 9.1, 9.2, refusal 7: a record of one of the kinds 0 to 3
unfoldable pub content : List ℕ → Reading
content s =
    choose (eqb (byte s 2) 0) (Setup (byte s 3) (byte s 4) (byte s 5) (number s 6))
    (choose (eqb (byte s 2) 1) (Asked (Begin (byte s 3) (number s 4)))
    (choose (eqb (byte s 2) 3) (Asked (Release (byte s 3) (number s 4)))
    (choose (eqb (number s 4) 0) (Asked (Step (byte s 3))) (Unreadable 7))))

-- SPECIFICATION 9.2, refusals 3 to 7: a record, with its checks in order
unfoldable pub read : Bool → List ℕ → Reading
read first s =
    choose (cut s) (Unreadable 3)
    (choose (not (marked s)) (Unreadable 4)
    (choose (ltb 3 (byte s 2)) (Unreadable 5)
    (choose first
    (choose (eqb (byte s 2) 0) (content s) (Unreadable 6))
    (choose (eqb (byte s 2) 0) (Unreadable 6) (content s)))))

-- SPECIFICATION 9.1: how many bytes a record has
unfoldable pub length_of : Reading → ℕ
length_of (Setup s t c h) = 10
length_of (Asked call) = 8
length_of (Unreadable n) = 0

-- ---- what a record does

-- SPECIFICATION 10.1: the call that a record stands for
unfoldable pub performed : Pool → Reading → Outcome
performed p (Setup s t c h) = setup_of s t c h
performed p (Asked call) = call_of p call
performed p (Unreadable n) = turned_down n p

-- SPECIFICATION 10.4: whether an answer ends the run
unfoldable pub ends_run : Answer → Bool
ends_run a = both (ltb 0 (refusal_of a)) (leb (refusal_of a) 8)

-- SPECIFICATION 10.3: the client that a record names
unfoldable pub named_by : Reading → ℕ
named_by (Setup s t c h) = 0
named_by (Asked call) = caller call
named_by (Unreadable n) = 0

-- ---- report lines

-- the decimal digits of n, the highest first; `fuel` is at least one less than how many there are
unfoldable pub digits : ℕ → ℕ → List ℕ
digits zero n = (48 + n % 10) ∷ []
digits (suc fuel) n = let higher = digits fuel (n / 10) in choose (ltb n 10) ((48 + n) ∷ []) (higher ++ (48 + n % 10) ∷ [])

-- SPECIFICATION 10.2: a number in decimal
abbrev pub decimal : ℕ → List ℕ
decimal n = digits n n

-- SPECIFICATION 10.2: a line
unfoldable pub line : ℕ → ℕ → ℕ → ℕ → List ℕ
line at client code value = decimal at ++ 32 ∷ decimal client ++ 32 ∷ decimal code ++ 32 ∷ decimal value ++ 10 ∷ []

-- SPECIFICATION 10.3: the line of a record with its answer
unfoldable pub line_for : ℕ → Reading → Answer → List ℕ
line_for at reading a = line at (choose (ends_run a) 0 (named_by reading)) (code_of a) (value_of a)

-- ---- the run

-- What a run comes to: how many records did not end it, the refusal that ended it or 0, and the bytes of its lines.
pub record Ran : Type 0 where
  pub records : ℕ
  pub refusal : ℕ
  pub lines : List ℕ

-- a run that ends before record `at`, without a line
abbrev pub ends : ℕ → ℕ → Ran
ends at n = record { records = at; refusal = n; lines = [] }

-- SPECIFICATION 10.1, refusal 2: the run from record `at` on, over the bytes that are left, with `space` bytes of the report space left; `fuel` is
-- above the number of bytes
unfoldable pub run_from : ℕ → Pool → ℕ → List ℕ → ℕ → Ran
run_from zero p at bytes space = ends at 0
run_from (suc fuel) p at bytes space =
    let reading = read (eqb at 0) bytes in
    let o = performed p reading in
    let written = line_for at reading o.answer in
    let rest = run_from fuel o.pool (at + 1) (drop (length_of reading) bytes) (space - length written) in
    choose (both (ltb 0 at) (eqb (length bytes) 0)) (ends at 0)
    (choose (ltb space 24) (ends at 2)
    (choose (ends_run o.answer)
    (record { records = at; refusal = refusal_of o.answer; lines = written })
    (record { records = rest.records; refusal = rest.refusal; lines = written ++ rest.lines })))

-- SPECIFICATION 10.1, refusal 1: the whole run
unfoldable pub ran : List ℕ → ℕ → Ran
ran schedule space = let r = run_from (length schedule + 1) no_pool 0 schedule space in choose (ltb 16384 (length schedule)) (ends 0 1) r

-- SPECIFICATION 10.4: what a run returns
unfoldable pub end_of : List ℕ → List ℕ → Ended
end_of schedule space =
    let r = ran schedule (length space) in
    record { records = r.records; bytes = length r.lines; refusal = r.refusal }

-- SPECIFICATION 10.4, 10.5: the report space after a run
unfoldable pub report_of : List ℕ → List ℕ → List ℕ
report_of schedule space =
    let lines = (ran schedule (length space)).lines in
    lines ++ drop (length lines) space
