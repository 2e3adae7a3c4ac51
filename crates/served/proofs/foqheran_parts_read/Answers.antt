-- What turns the call down is told first; a call that is not turned down fills the frame of the client's grant. Assumes nothing.
use Rattle.std.proofs.Common.{◌∙◌, sym, ap, refl, rules}
use Rattle.pool.specs.declared.Answer.TheVariants.{Done}
use Rattle.in_place.specs.Held.{state_from}
use Rattle.in_place.specs.Refused.{not_none}
use Rattle.served.specs.Words.{word_of}
use Rattle.served.specs.Served.{read_turned, reads}
use Rattle.served.proofs.foqheran_parts_read.Goals as goal

pub returns-in-Ok : goal.returns-in-Ok
returns-in-Ok c =
    λ p changed k.
    let a = c.args in
    let x = state_from p a.store_pages a.bytes.now a.filled.now changed a.store.now in
    let h = c.in-Ok.ensures.held_by x k refl refl in
    let done = reads x a.client a.page a.offset (sym h.refusal) h.frame c.fill.ensures.bytes c.fill.ensures.filled c.byte.ensures
    (c.word.ensures ∙ ap (λ v. word_of (Done v)) c.from.ensures) in
    search (rules, done)

pub returns-in-Err : goal.returns-in-Err
returns-in-Err c =
    λ p changed k.
    let a = c.args in
    let x = state_from p a.store_pages a.bytes.now a.filled.now changed a.store.now in
    let h = c.in-Err.ensures.held_by x k refl refl in
    read_turned x a.client a.page a.offset (sym h.refusal) (not_none c.in-Err.refusal) c.word-in-Err.ensures
