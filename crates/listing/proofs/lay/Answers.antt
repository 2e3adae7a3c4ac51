use Rattle.std.proofs.Common.{arith}
use Rattle.listing.proofs.Laying.{one_more, whole}
use Rattle.listing.proofs.lay.Goals as goal

pub loop-i-preserved : goal.loop-i-preserved
loop-i-preserved c = rw c.from.ensures (one_more _ _ _ c.loop-i.invariant (omega arith) (omega arith) c.loop-i-test.true (omega arith))

pub returns : goal.returns
returns c = whole _ _ _ c.loop-i.invariant c.loop-i.auto.i-end c.loop-i-test.false
