-- Refused, nothing is stored; accepted, every part is. Assumes nothing.
use Rattle.std.proofs.Common.{◌≡◌, ◌∙◌, ap, refl, true, false, rules}
use Rattle.pool.specs.Choose.{choose, both}
use Rattle.pool.specs.declared.Answer.TheVariants.{Done}
use Rattle.laws.specs.Scans.{both_yes}
use Rattle.memory.specs.Requests.{State}
use Rattle.in_place.specs.Held.{pool_from, state_from}
use Rattle.served.specs.Words.{word_of}
use Rattle.served.specs.Served.{accepted, refuses, sets_up}
use Rattle.served.proofs.foqheran_parts_setup.Goals as goal

pub returns-in_default : goal.returns-in_default
unfolding both choose
returns-in_default c =
    let a = c.args in
    let not : accepted a.s a.t a.c a.h a.store.now ≡ false = rw c.in_default.ensures refl in
    refuses a.s a.t a.c a.h a.store.now not c.word.ensures

pub returns-in_default-pages_of : goal.returns-in_default-pages_of
unfolding both choose
returns-in_default-pages_of c =
    let a = c.args in
    let not : accepted a.s a.t a.c a.h a.store.now ≡ false = rw (c.in-Some.ensures.0, c.in_default-pages_of.ensures) refl in
    refuses a.s a.t a.c a.h a.store.now not c.word-in_default-pages_of.ensures

pub returns : goal.returns
returns c =
    let a = c.args in
    let x : State = state_from (pool_from a.size.now a.client_count.now a.cap.now a.hand.now a.free.now a.last.now a.slots.now a.pages.now a.pins.now a.counts.now a.table_pages.now a.table_frames.now a.client_bytes.now a.client_words.now a.grant_pages.now a.grant_frames.now) a.store_pages.now a.bytes.now a.filled.now a.changed.now a.store.now in
    let accepts : accepted a.s a.t a.c a.h a.store.now ≡ true = both_yes _ _ c.in-Some.ensures.0 c.in-Some-pages_of.ensures.0 in
    sets_up a.s a.t a.c a.h a.store.now x accepts (c.word-2.ensures ∙ ap (λ v. word_of (Done v)) c.from.ensures) c.in-Some-pages_of.ensures.1
    (search (rules, c.rest_all.ensures.clients))
