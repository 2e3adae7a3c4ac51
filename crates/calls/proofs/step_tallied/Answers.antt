-- It is a call of its kind, and `step_refusals` lists by what such a call can be refused. Assumes nothing.
use Rattle.calls.specs.Refusals.{step_refusals}
use Rattle.calls.proofs.step_tallied.Goals as goal

pub returns-clause-among : goal.returns-clause-among
returns-clause-among c = rw c.call_on-made.ensures (step_refusals _ _)
