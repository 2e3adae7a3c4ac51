use Rattle.std.proofs.Common.{◌∙◌, get_or, arith}
use Rattle.counting.proofs.GoesUp.{up_is, goes_up, stays}
use Rattle.counting.proofs.count.Goals as goal

pub returns-in-Some : goal.returns-in-Some
returns-in-Some c =
    let i = c.in-Some.i in
    goes_up c.args.tally.now c.args.counted i _ c.told-tally c.in-Some.ensures.place c.in-Some.ensures.bound
    (c.saturating_add.ensures ∙ up_is (get_or c.args.tally.now i 0) (c.fits-tally i))

pub returns-in_default : goal.returns-in_default
returns-in_default c = stays c.args.tally.now c.args.counted c.in_default.ensures.place (omega arith)
