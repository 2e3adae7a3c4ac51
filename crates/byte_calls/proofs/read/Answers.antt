-- What turns the call down is what `holder` found; one that is not turned down fills the frame of the client's grant. Assumes nothing.
use Rattle.std.proofs.Common.{rules, refl, ap, ◌∙◌}
use Rattle.pool.specs.Answers.{refusal_of}
use Rattle.buffered.specs.Ways.{turned_reply}
use Rattle.byte_calls.specs.Passed.{read_refused, reads, read_few}
use Rattle.byte_calls.proofs.read.Goals as goal

pub returns-in-Err-clause-value : goal.returns-in-Err-clause-value
returns-in-Err-clause-value c =
    let a = c.args in
    let value = c.turned_back.ensures ∙ ap (λ n. turned_reply n a.pool) c.number.ensures ∙ read_refused a.pool a.store.now a.client a.page a.offset c.in-Err.refusal c.in-Err.ensures.frame in
    search (rules, value)

pub returns-in-Err-clause-among : goal.returns-in-Err-clause-among
returns-in-Err-clause-among c =
    let a = c.args in
    let value = c.turned_back.ensures ∙ ap (λ n. turned_reply n a.pool) c.number.ensures ∙ read_refused a.pool a.store.now a.client a.page a.offset c.in-Err.refusal c.in-Err.ensures.frame in
    (read_few a.pool a.store.now a.client a.page a.offset value).1

pub returns-clause-value : goal.returns-clause-value
returns-clause-value c =
    let a = c.args in
    let done = reads a.pool a.store.now a.client a.page a.offset c.in-Ok.ensures.frame c.fill.ensures.bytes c.fill.ensures.filled c.byte-byte.ensures in
    search (rules, done)

pub returns-clause-among : goal.returns-clause-among
unfolding refusal_of
returns-clause-among c = refl
