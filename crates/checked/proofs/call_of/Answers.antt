use Rattle.checked.specs.Ways.{without_write}
use Rattle.checked.proofs.call_of.Goals as goal

pub returns : goal.returns
returns c = without_write c.args.pool c.args.call c.call_on-made.ensures
