-- What is left of pool and store is the definition's, and the tally is brought up to date by what the step is counted as. Assumes nothing.
use Rattle.byte_step.specs.Steps.{counts, counts_not}
use Rattle.byte_step.proofs.step_tallied.Goals as goal

pub returns-in-Ok : goal.returns-in-Ok
returns-in-Ok c =
    let a = c.args in
    let done = counts a.pool a.client a.tally a.store.now c.in-Ok.ensures c.count.ensures in
    record { value = done.0; among = done.1 }

pub returns-in-Err : goal.returns-in-Err
returns-in-Err c =
    let a = c.args in
    let done = counts_not a.pool a.client a.tally a.store.now c.in-Err.refusal c.in-Err.ensures c.into-answer.ensures in
    record { value = done.0; among = done.1 }
