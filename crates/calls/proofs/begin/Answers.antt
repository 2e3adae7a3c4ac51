-- It is a call of its kind, and `begin_refusals` lists by what such a call can be refused. Assumes nothing.
use Rattle.calls.specs.Refusals.{begin_refusals}
use Rattle.calls.proofs.begin.Goals as goal

pub returns-clause-among : goal.returns-clause-among
returns-clause-among c = rw c.call_of.ensures (begin_refusals _ _ _)
