-- Checks 1 and 2 and the first record end the run as the definition does, or the first record sets the pool up; then its line is written, and
-- what `run_calls` leaves after that line is what the whole run leaves. Assumes nothing.
use borrow.Author.Rules.{rules}
use native.Mathlib.Omega.{arith}
use mathlib.Core.Path.{◌≡◌, sym, ◌∙◌}
use Prim.Native.Nat.{◌-◌}
use lib.ListN.{length}
use Rattle.schedule.specs.Rest.{answer_line}
use Rattle.schedule.proofs.Runs.{report_here, ends_on, reports_on, whole_run}
use Rattle.schedule.proofs.First.{too_long, no_room, unread_first, setup_whole, refused_first, set_up_first, accepted_first, from_first}
use Rattle.schedule.proofs.run.Goals as goal

pub returns-then-schedule-gt-LONGEST : goal.returns-then-schedule-gt-LONGEST
returns-then-schedule-gt-LONGEST c =
    let w = whole_run _ _ _ (too_long _ _ c.if-schedule-gt-LONGEST.true) in
    (c.end.ensures ∙ w.0, sym (report_here 0 0 1 _) ∙ w.1)

pub returns-then-left-lt-LINE : goal.returns-then-left-lt-LINE
returns-then-left-lt-LINE c =
    let w = whole_run _ _ _ (no_room _ _ c.if-schedule-gt-LONGEST.false (omega arith)) in
    (c.end-then-left-lt-LINE.ensures ∙ w.0, sym (report_here 0 0 2 _) ∙ w.1)

pub returns-in-Err : goal.returns-in-Err
returns-in-Err c =
    let w = whole_run _ _ _ (unread_first _ _ c.if-schedule-gt-LONGEST.false (omega arith) _ c.in-Err.ensures.refused) in
    (c.stop.ensures.ended ∙ w.0, (search rules) ∙ c.stop.ensures.report ∙ w.1)

pub returns-in_default : goal.returns-in_default
returns-in_default c =
    let read = c.in-Ok.ensures.value in
    let w = whole_run _ _ _ (refused_first _ _ c.if-schedule-gt-LONGEST.false (omega arith) _ _ _ _ read c.setup-made.ensures.value c.in_default.not-Done) in
    (c.stop-in_default.ensures.ended ∙ w.0, (search rules) ∙ c.stop-in_default.ensures.report ∙ w.1)

pub run_calls-requires : goal.run_calls-requires
run_calls-requires c =
    let read = c.in-Ok.ensures.value in
    let short = c.if-schedule-gt-LONGEST.false in
    record {
      set_up = set_up_first _ (length c.args.report.now) short (omega arith) _ _ _ _ read c.setup-made.ensures.value c.in-Done.is;
      in_bounds = (setup_whole _ (length c.args.report.now) short (omega arith) _ _ _ _ read, short, c.answer.new.self.within);
    }

pub returns : goal.returns
returns c =
    let read = c.in-Ok.ensures.value in
    let wrote = c.answer.ensures.answered in
    let new = c.answer.new.self in
    let left : length new.space.now - new.bytes ≡ length c.args.report.now - length (answer_line 0 0 c.setup-made.result.answer) = omega (arith, wrote.bytes, wrote.size) in
    let rest = from_first c.args.schedule.now c.setup-made.result.pool left in
    let w = whole_run _ _ _ (accepted_first _ _ c.if-schedule-gt-LONGEST.false (omega arith) _ _ _ _ read c.setup-made.ensures.value c.in-Done.is) in
    (rw rest at c.run_calls.ensures.0 ∙ ends_on wrote _ ∙ w.0, (search rules) ∙ rw rest at c.run_calls.ensures.1 ∙ reports_on wrote _ ∙ w.1)
