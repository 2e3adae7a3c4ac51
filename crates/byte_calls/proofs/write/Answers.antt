-- What turns the call down is what `holder` found; one that is not fills the frame of the client's grant, and writes there. Assumes nothing.
use Rattle.std.proofs.Common.{rules, refl, ap, ◌∙◌}
use Rattle.pool.specs.Answers.{refusal_of}
use Rattle.content.specs.Filling.{marks_written}
use Rattle.buffered.specs.Ways.{turned_reply}
use Rattle.byte_calls.specs.Passed.{write_refused, writes, write_few}
use Rattle.byte_calls.proofs.write.Goals as goal

pub returns-in-Err-clause-value : goal.returns-in-Err-clause-value
returns-in-Err-clause-value c =
    let a = c.args in
    let value = c.turned_back.ensures ∙ ap (λ n. turned_reply n a.pool) c.number.ensures ∙ write_refused a.pool a.store.now a.client a.page a.offset a.byte c.in-Err.refusal c.in-Err.ensures.frame in
    search (rules, value)

pub returns-in-Err-clause-among : goal.returns-in-Err-clause-among
returns-in-Err-clause-among c =
    let a = c.args in
    let value = c.turned_back.ensures ∙ ap (λ n. turned_reply n a.pool) c.number.ensures ∙ write_refused a.pool a.store.now a.client a.page a.offset a.byte c.in-Err.refusal c.in-Err.ensures.frame in
    (write_few a.pool a.store.now a.client a.page a.offset a.byte value).1

pub returns-clause-value : goal.returns-clause-value
returns-clause-value c =
    let a = c.args in
    let changed = c.write.ensures.changed ∙ ap (λ l. marks_written l c.in-Ok.frame a.offset) c.fill.ensures.changed in
    let done = writes a.pool a.store.now a.client a.page a.offset c.in-Ok.ensures.frame c.fill.ensures.bytes c.fill.ensures.filled a.byte
    c.write.ensures.bytes c.write.ensures.filled changed in
    search (rules, done)

pub returns-clause-among : goal.returns-clause-among
unfolding refusal_of
returns-clause-among c = refl
