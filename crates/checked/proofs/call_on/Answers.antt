use Rattle.std.proofs.Common.{◌∙◌}
use Rattle.play.specs.Calls.{not_valid}
use Rattle.checked.specs.Ways.{as_unmade}
use Rattle.checked.proofs.call_on.Goals as goal

pub returns-in-Err : goal.returns-in-Err
returns-in-Err c =
    c.unmade.ensures ∙ rw ((c.in-Err.ensures).0) (as_unmade c.args.pool.now c.args.call 8 (not_valid c.args.pool.now c.args.call (c.in-Err.ensures).1))
