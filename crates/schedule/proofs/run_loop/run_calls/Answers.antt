use borrow.Author.Rules.{rules}
use native.Mathlib.Omega.{arith}
use mathlib.Core.Path.{refl, sym, subst, ◌∙◌}
use Prim.Native.Nat.{ℕ}
use Rattle.schedule.specs.Reports.{Wrote}
use Rattle.invariant.proofs.Valid.{valid_reached}
use Rattle.schedule.specs.Rest.{answer_line}
use Rattle.schedule.proofs.Runs.{report_here}
use Rattle.schedule.proofs.Turned.{is_call}
use Rattle.schedule.proofs.Going.{at_start, few, place_fits, falls, comes_to, all_read, full, unread, next}
use Rattle.schedule.proofs.run_loop.run_calls.Goals as goal

-- ---- a record's turn

pub loop-place-init : goal.loop-place-init
loop-place-init c =
    let p = c.requires in
    at_start p.set_up refl p.in_bounds.0 p.in_bounds.1

pub returns-then-left-lt-LINE : goal.returns-then-left-lt-LINE
returns-then-left-lt-LINE c =
    let l = c.loop-place in
    let r = comes_to l.invariant _ (full l.invariant (omega arith) (omega arith)) in
    (c.end-then-left-lt-LINE.ensures ∙ r.0, (search rules) ∙ sym (report_here l.report.bytes l.report.records 2 l.report.space.now) ∙ r.1)

pub stop-requires : goal.stop-requires
stop-requires c = record { room = omega arith; few = few c.loop-place.invariant }

pub returns-in-Err : goal.returns-in-Err
returns-in-Err c =
    let g = c.loop-place.invariant in
    let rest = comes_to g _ (unread g (omega arith) (omega arith) _ c.in-Err.ensures.refused) in
    (c.stop.ensures.ended ∙ rest.0, (search rules) ∙ c.stop.ensures.report ∙ rest.1)

pub overflow_add-place : goal.overflow_add-place
overflow_add-place c = place_fits c.loop-place.invariant

pub perform-answer-requires-clause-valid : goal.perform-answer-requires-clause-valid
perform-answer-requires-clause-valid c = valid_reached c.loop-place.pool c.loop-place.invariant.reached

pub answer-requires : goal.answer-requires
answer-requires c = record { room = omega arith; few = few c.loop-place.invariant }

pub loop-place-smaller : goal.loop-place-smaller
loop-place-smaller c = falls c.loop-place.invariant (omega arith)

pub loop-place-preserved : goal.loop-place-preserved
loop-place-preserved c =
    let l = c.loop-place in
    let done = c.perform-answer.ensures in
    let wrote = c.answer.ensures in
    let its_line : ℕ → Type 0 = λ client. Wrote (answer_line l.report.records client c.perform-answer.result) l.report c.answer.new.self in
    next l.invariant (omega arith) (omega arith) _ c.in-Ok.ensures.value (is_call l.pool _ l.invariant.reached done.moved done.turned) done.numbers
    (subst its_line c.caller-caller.ensures wrote.answered) wrote.records

pub returns-then-place-schedule : goal.returns-then-place-schedule
returns-then-place-schedule c =
    let l = c.loop-place in
    let r = comes_to l.invariant _ (all_read l.invariant (omega arith)) in
    (c.end.ensures ∙ r.0, (search rules) ∙ sym (report_here l.report.bytes l.report.records 0 l.report.space.now) ∙ r.1)
