use Rattle.std.proofs.Common.{ap, not, arith}
use Rattle.laws.specs.Loops.{fails, passes, all_pass}
use Rattle.checks.specs.Met.{mark}
use Rattle.checks.specs.Places.{entries_ok_in}
use Rattle.checks.proofs.repeats.entries_ok.Goals as goal

pub returns-then-not-entry_ok : goal.returns-then-not-entry_ok
unfolding entries_ok_in
returns-then-not-entry_ok c = fails c.loop-i.invariant.0 (omega arith) c.entry_ok.ensures (ap not c.if-not-entry_ok.true)

pub loop-i-preserved : goal.loop-i-preserved
loop-i-preserved c =
    let t = c.loop-i.invariant in
    (passes t.0 (omega arith) c.entry_ok.ensures (ap not c.if-not-entry_ok.false), mark t.1 (omega arith) c.met-met.ensures.after)

pub returns : goal.returns
unfolding entries_ok_in
returns c = all_pass c.loop-i.invariant.0 (omega arith)
