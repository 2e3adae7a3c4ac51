-- The four fields make the line, and there is room for them: a code has at most 3 digits, a value of 32 bits at most 10. Assumes nothing.
use native.Mathlib.Omega.{arith}
use Prim.Native.Nat.{◌≤◌}
use Rattle.pool.specs.Answers.{code_of, value_of}
use Rattle.schedule.specs.Lines.{line_fields, line_fits, at_most_3, at_most_4, at_most_10}
use Rattle.schedule.specs.Reports.{Wrote, both}
use Rattle.schedule.specs.Rest.{answer_line}
use Rattle.schedule.proofs.lines.Report.line.Goals as goal
use Rattle.schedule.proofs.lines.Report.line.Goals.{After-field-4}

pub field-requires : goal.field-requires
field-requires c = omega (arith, at_most_4)

pub field-requires-2 : goal.field-requires-2
field-requires-2 c = omega (arith, at_most_4, at_most_3)

pub field-requires-3 : goal.field-requires-3
field-requires-3 c = omega (arith, at_most_4, at_most_3)

pub field-requires-4 : goal.field-requires-4
field-requires-4 c = omega (arith, at_most_4, at_most_3, at_most_10)

-- what was written is the line
its_line : (c : After-field-4) → Wrote (answer_line c.args.self.now.records c.args.client c.args.answer) c.args.self.now c.field-4.new.self
its_line c =
    rw (← c.from.ensures, ← c.code_of.ensures.code, ← c.value_of.ensures, line_fields)
    (both (both (both c.field.ensures.written c.field-2.ensures.written) c.field-3.ensures.written) c.field-4.ensures.written)

pub returns-clause-written : goal.returns-clause-written
returns-clause-written c = its_line (goal.at.returns-clause-written c).After-field-4

pub returns-clause-bound : goal.returns-clause-bound
returns-clause-bound c =
    let wrote = its_line (goal.at.returns-clause-bound c).After-field-4 in
    let a = c.args in
    let code : code_of a.answer ≤ 999 = omega (arith, c.code_of.ensures.code, c.code_of.ensures.bound) in
    let fits = line_fits a.self.now.records a.client (code_of a.answer) (value_of a.answer) c.requires.few (omega arith) code (omega (arith, c.value_of.ensures)) in
    omega (arith, wrote.bytes, fits)
