-- What a run leaves, told from the middle: `records` records are done, `bytes` bytes of the report space are written, and r is what the rest of the
-- run comes to. Assumes nothing.
use Rattle.std.specs.Prelude.{◌≡◌, refl, List, ◌++◌, ℕ, ◌+◌, ◌-◌, ◌≤◌, length, take, drop}
use Rattle.std.proofs.Common.{◌∙◌, ap, arith, append_assoc, length-append, length-take-le, drop-drop}
use Rattle.std.proofs.Math.Seq.{take-append_seam, drop-append-add}
use Rattle.pool.specs.Answers.{code_of, value_of}
use Rattle.pool.specs.Schedule.{Ran, line, run_from}
use Rattle.pool.specs.declared.Answer.{Answer}
use Rattle.pool.specs.declared.Ended.{Ended}
use Rattle.pool.specs.declared.Pool.{Pool}

-- the line of an answer: the record's number, the client it names, and the answer's two numbers
abbrev pub answer_line : ℕ → ℕ → Answer → List ℕ
answer_line records client a = line records client (code_of a) (value_of a)

unfoldable pub end_after : ℕ → Ran → Ended
end_after bytes r = record { records = r.records; bytes = bytes + length r.lines; refusal = r.refusal }

-- text laid over a space from a place on: what stands before and after it stays
abbrev pub laid_at : ℕ → List ℕ → List ℕ → List ℕ
laid_at place text space = take place space ++ text ++ drop (place + length text) space

pub laid_both : (place : ℕ) (a b space : List ℕ) → place ≤ length space → laid_at (place + length a) b (laid_at place a space) ≡ laid_at place (a ++ b) space
laid_both place a b space h =
    let front = take place space ++ a in
    let count : length front ≡ place + length a = length-append (take place space) a ∙ ap (λ (k : ℕ). k + length a) (length-take-le place space h) in
    let whole : laid_at place a space ≡ front ++ drop (length front) space = rw (count, append_assoc) refl in
    let both : place + length (a ++ b) ≡ place + length a + length b = rw length-append (omega arith) in
    rw (whole, ← count, take-append_seam, drop-append-add, drop-drop, count, both) (simp append_assoc)

-- the bytes written so far, the lines of the rest of the run, and what stands behind them in the report space, which stays (SPECIFICATION 10.4)
unfoldable pub report_after : ℕ → Ran → List ℕ → List ℕ
report_after bytes r space = laid_at bytes r.lines space

-- the record with this number ends the run by a refusal of 3 to 8: its line names client 0
abbrev pub stopped : ℕ → ℕ → Ran
stopped records refusal = record { records = records; refusal = refusal; lines = line records 0 (100 + refusal) 0 }

-- The rest of the run of schedule s, whose next record starts at byte `place`. Each record before it took one of the run's fuel.
abbrev pub rest : List ℕ → Pool → ℕ → ℕ → ℕ → Ran
rest s p records place space = run_from (length s + 1 - records) p records (drop place s) space
