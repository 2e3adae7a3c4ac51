use Rattle.std.proofs.Common.{◌∙◌, []}
use Rattle.memory.specs.Requests.{state_of}
use Rattle.buffered.specs.Refusals.{begin_refusals}
use Rattle.buffered.proofs.begin.Goals as goal

pub returns-clause-among : goal.returns-clause-among
returns-clause-among c = rw (c.replied.ensures ∙ c.begun.ensures []) (begin_refusals (state_of c.args.pool []) c.args.client c.args.page)
