use Rattle.std.proofs.Common.{◌∙◌}
use Rattle.answers.specs.Numbers.{refusal_number}
use Rattle.checked.specs.Ways.{as_unmade}
use Rattle.checked.proofs.call_made.Goals as goal

pub returns-in-Err : goal.returns-in-Err
returns-in-Err c = c.unmade.ensures ∙ as_unmade c.args.pool.now.pool.now c.args.call (refusal_number c.in-Err.refusal) c.in-Err.ensures
