-- One record of a run at a time: what ends a run and what a record that does not end it leaves of the run, of the report space and of what
-- the run returns. Assumes nothing.
use mathlib.Core.Path.{◌≡◌, ◌∙◌}
use mathlib.Core.Bool.{true, false}
use mathlib.Core.List.{List, ◌++◌, append-nil}
use Prim.Native.Nat.{ℕ, suc, ◌+◌, ◌-◌, ◌≤◌, ◌<◌}
use native.Mathlib.Omega.{arith}
use borrow.Author.Tests.{lt-ltb, le-ltb}
use lib.Dec.{eqb, ltb}
use lib.ListN.{length, take, drop, length-append, length-drop, take-append-drop}
use lib.Seq.{take_all}
use Rattle.pool.specs.Choose.{choose, both}
use Rattle.pool.specs.Answers.{refusal_of, code_of, value_of}
use Rattle.pool.specs.Schedule.{Ran, ends, read, length_of, performed, ends_run, line_for, run_from, ran, end_of, report_of}
use Rattle.pool.specs.declared.Answer.TheVariants.{Refused}
use Rattle.pool.specs.declared.Outcome.{Outcome}
use Rattle.pool.specs.declared.Pool.{Pool}
use Rattle.pool.specs.declared.Reading.{Reading}
use Rattle.laws.specs.Choices.{chosen, passed}
use Rattle.schedule.specs.Reports.{Wrote}
use Rattle.schedule.specs.declared.lines.Report.{Report}
use Rattle.schedule.specs.Rest.{end_after, report_after, stopped, laid_both}

-- ---- the report space and what is returned

-- the lines w before those of the rest
abbrev pub before : List ℕ → Ran → Ran
before w r = record { records = r.records; refusal = r.refusal; lines = w ++ r.lines }

pub report_here : (bytes records refusal : ℕ) (space : List ℕ) → report_after bytes (ends records refusal) space ≡ space
unfolding report_after
report_here bytes records refusal space = let e : bytes + 0 ≡ bytes = omega arith in rw (e, append-nil) (take-append-drop bytes space)

-- once a line is written, the rest of the run goes on from its end
module _ {w : List ℕ} {old new : Report} (wrote : Wrote w old new) (r : Ran) where
  pub ends_on : end_after new.bytes r ≡ end_after old.bytes (before w r)
  unfolding end_after
  ends_on =
      let e : old.bytes + length (w ++ r.lines) ≡ old.bytes + length w + length r.lines = rw length-append (omega arith) in
      rw (wrote.bytes, e)

  pub reports_on : report_after new.bytes r new.space.now ≡ report_after old.bytes (before w r) old.space.now
  unfolding report_after
  reports_on = rw (wrote.bytes, wrote.space) (laid_both old.bytes w r.lines old.space.now old.within)

-- the part of the schedule from a place on, as the code lends it
abbrev pub from : ℕ → List ℕ → List ℕ
from place s = take (length s - place) (drop place s)

pub from_all : (place : ℕ) (s : List ℕ) → from place s ≡ drop place s
from_all place s = take_all (length s - place) (drop place s) (rw length-drop (omega arith))

-- a whole run
pub whole_run : (s space : List ℕ) (r : Ran) → ran s (length space) ≡ r → (end_after 0 r ≡ end_of s space) × (report_after 0 r space ≡ report_of s space)
unfolding end_after end_of report_after report_of
whole_run s space r e = let start : 0 + length r.lines ≡ length r.lines = omega arith in (simp (start, e), simp (start, e))

-- ---- a record

-- the line of a record that ends the run
pub stop_line : (records refusal : ℕ) (reading : Reading) → ends_run (Refused refusal) ≡ true →
    record { records = records; refusal = refusal_of (Refused refusal); lines = line_for records reading (Refused refusal) } ≡ stopped records refusal
unfolding line_for refusal_of code_of value_of choose
stop_line records refusal reading e = rw e

module _ (fuel : ℕ) (p : Pool) (records : ℕ) (input : List ℕ) (space : ℕ) where
  -- the ordinary end (SPECIFICATION 10.1)
  pub at_end : 0 < records → length input ≡ 0 → run_from (suc fuel) p records input space ≡ ends records 0
  unfolding run_from both choose
  at_end some none = rw (lt-ltb 0 records some, none)

  module _ (more : both (ltb 0 records) (eqb (length input) 0) ≡ false) where
    pub no_space : space < 24 → run_from (suc fuel) p records input space ≡ ends records 2
    unfolding run_from
    no_space h = passed _ _ _ more ∙ chosen _ _ _ (lt-ltb space 24 h)

    module _ (reading : Reading) (o : Outcome) (room : 24 ≤ space) (e : read (eqb records 0) input ≡ reading) (d : performed p reading ≡ o) where
      pub stops : ends_run o.answer ≡ true →
          run_from (suc fuel) p records input space ≡ record { records = records; refusal = refusal_of o.answer; lines = line_for records reading o.answer }
      unfolding run_from
      stops last = passed _ _ _ more ∙ passed _ _ _ (le-ltb space 24 room) ∙ simp (e, d) (chosen _ _ _ last)

      pub goes_on : ends_run o.answer ≡ false →
          run_from (suc fuel) p records input space ≡
          before (line_for records reading o.answer)
          (run_from fuel o.pool (records + 1) (drop (length_of reading) input) (space - length (line_for records reading o.answer)))
      unfolding run_from
      goes_on last = passed _ _ _ more ∙ passed _ _ _ (le-ltb space 24 room) ∙ simp (e, d) (passed _ _ _ last)
