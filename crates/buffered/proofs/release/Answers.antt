use Rattle.std.proofs.Common.{◌∙◌, []}
use Rattle.memory.specs.Requests.{state_of}
use Rattle.buffered.specs.Refusals.{release_refusals}
use Rattle.buffered.proofs.release.Goals as goal

pub returns-clause-among : goal.returns-clause-among
returns-clause-among c = rw (c.replied.ensures ∙ c.released.ensures []) (release_refusals (state_of c.args.pool []) c.args.client c.args.page)
