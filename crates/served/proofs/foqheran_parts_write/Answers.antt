-- What turns the call down is told first; a call that is not turned down fills the frame of the client's grant. Assumes nothing.
use Rattle.std.proofs.Common.{sym, ap, ◌∙◌, refl, rules}
use Rattle.content.specs.Filling.{marks_written}
use Rattle.in_place.specs.Held.{state_from}
use Rattle.in_place.specs.Refused.{not_none}
use Rattle.served.specs.Served.{write_turned, writes}
use Rattle.served.proofs.foqheran_parts_write.Goals as goal

pub returns-in-Ok : goal.returns-in-Ok
returns-in-Ok c =
    λ p k.
    let a = c.args in
    let x = state_from p a.store_pages a.bytes.now a.filled.now a.changed.now a.store.now in
    let h = c.in-Ok.ensures.held_by x k refl refl in
    let changed = c.write.ensures.changed ∙ ap (λ l. marks_written l c.in-Ok.frame a.offset) c.fill.ensures.changed in
    let done = writes x a.client a.page a.offset (sym h.refusal) h.frame c.fill.ensures.bytes c.fill.ensures.filled a.byte c.write.ensures.bytes changed c.word.ensures in
    search (rules, done)

pub returns-in-Err : goal.returns-in-Err
returns-in-Err c =
    λ p k.
    let a = c.args in
    let x = state_from p a.store_pages a.bytes.now a.filled.now a.changed.now a.store.now in
    let h = c.in-Err.ensures.held_by x k refl refl in
    write_turned x a.client a.page a.offset a.byte (sym h.refusal) (not_none c.in-Err.refusal) c.word-in-Err.ensures
