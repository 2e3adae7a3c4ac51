-- A number of one to four digits is stored digit by digit (`decimal_one` to `decimal_four` say which), and a longer one is `itoa`'s text. There is room
-- for the digits, since the contract asks for it. Assumes nothing.
use native.Mathlib.Omega.{arith}
use Rattle.std.proofs.Common.{◌≡◌, ◌∙◌, sym}
use Rattle.pool.specs.Schedule.{decimal}
use Rattle.schedule.specs.Decimals.{as_std, decimal_one, decimal_two, decimal_three, decimal_four}
use Rattle.schedule.proofs.lines.Report.decimal.Goals as goal

pub put-requires : goal.put-requires
put-requires c = rw (decimal_one _ c.if-v-lt10.true) at c.requires

pub put-requires-then-v-lt100 : goal.put-requires-then-v-lt100
put-requires-then-v-lt100 c = rw (decimal_two _ c.if-v-lt10.false c.if-v-lt100.true) at c.requires

pub put-requires-then-v-lt1000 : goal.put-requires-then-v-lt1000
put-requires-then-v-lt1000 c = rw (decimal_three _ c.if-v-lt100.false c.if-v-lt1000.true) at c.requires

pub put-requires-then-v-lt10000 : goal.put-requires-then-v-lt10000
put-requires-then-v-lt10000 c = rw (decimal_four _ c.if-v-lt1000.false c.if-v-lt10000.true) at c.requires

pub put-requires-else-v-lt10000 : goal.put-requires-else-v-lt10000
put-requires-else-v-lt10000 c =
    let same : c.as_bytes.result.now ≡ decimal c.args.v = c.as_bytes.ensures.value ∙ c.format.ensures.text ∙ sym (as_std c.args.v (omega arith)) in
    rw same c.requires

pub returns-then-v-lt10-clause-written : goal.returns-then-v-lt10-clause-written
returns-then-v-lt10-clause-written c = rw (decimal_one _ c.if-v-lt10.true, ← c.digit.ensures) c.put.ensures.written

pub returns-then-v-lt100-clause-written : goal.returns-then-v-lt100-clause-written
returns-then-v-lt100-clause-written c =
    rw (decimal_two _ c.if-v-lt10.false c.if-v-lt100.true, ← c.digit-then-v-lt100.ensures, ← c.digit-then-v-lt100-2.ensures)
    c.put-then-v-lt100.ensures.written

pub returns-then-v-lt1000-clause-written : goal.returns-then-v-lt1000-clause-written
returns-then-v-lt1000-clause-written c =
    rw (decimal_three _ c.if-v-lt100.false c.if-v-lt1000.true, ← c.digit-then-v-lt1000.ensures, ← c.digit-then-v-lt1000-2.ensures, ← c.digit-then-v-lt1000-3.ensures)
    c.put-then-v-lt1000.ensures.written

pub returns-then-v-lt10000-clause-written : goal.returns-then-v-lt10000-clause-written
returns-then-v-lt10000-clause-written c =
    rw (decimal_four _ c.if-v-lt1000.false c.if-v-lt10000.true, ← c.digit-then-v-lt10000.ensures, ← c.digit-then-v-lt10000-2.ensures, ← c.digit-then-v-lt10000-3.ensures, ← c.digit-then-v-lt10000-4.ensures)
    c.put-then-v-lt10000.ensures.written

pub returns-else-v-lt10000-clause-written : goal.returns-else-v-lt10000-clause-written
returns-else-v-lt10000-clause-written c =
    let same : c.as_bytes.result.now ≡ decimal c.args.v = c.as_bytes.ensures.value ∙ c.format.ensures.text ∙ sym (as_std c.args.v (omega arith)) in
    rw (← same) c.put-else-v-lt10000.ensures.written
