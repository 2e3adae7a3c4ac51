-- It is a call of its kind, and `release_refusals` lists by what such a call can be refused. Assumes nothing.
use Rattle.calls.specs.Refusals.{release_refusals}
use Rattle.calls.proofs.release.Goals as goal

pub returns-clause-among : goal.returns-clause-among
returns-clause-among c = rw c.call_of.ensures (release_refusals _ _ _)
