-- The whole check, and its answer as a number. Assumes nothing.
use Rattle.std.proofs.Common.{◌∙◌, ap, refl}
use Rattle.pool.specs.declared.Answer.TheVariants.{Done}
use Rattle.pool.specs.declared.Pool.{Pool}
use Rattle.answers.specs.Numbers.{refusal_number}
use Rattle.memory.specs.declared.Memory.{Memory}
use Rattle.checks.specs.Checked.{any_hand, as_done, as_refused}
use Rattle.in_place.specs.Held.{pool_from}
use Rattle.served.specs.Words.{word_of}
use Rattle.served.proofs.foqheran_parts_check.Goals as goal

pub returns-in-Ok : goal.returns-in-Ok
returns-in-Ok c =
    λ hand bytes.
    let a = c.args in
    let p : Pool = pool_from a.size a.client_count a.cap 0 a.free a.last a.slots.now a.pages.now a.pins.now a.counts.now a.table_pages.now a.table_frames.now a.client_bytes.now a.client_words.now a.grant_pages.now a.grant_frames.now in
    let m : Memory = record { pages = a.store_pages; bytes = bytes; filled = a.filled.now; changed = a.changed.now } in
    let e = rw c.all.ensures at (c.in-Ok.ensures.number bytes a.store.now refl) in
    c.word.ensures ∙ ap (λ n. word_of (Done n)) c.from.ensures ∙ ap word_of (as_done p m a.store.now e refl ∙ any_hand p hand m a.store.now)

pub returns-in-Err : goal.returns-in-Err
returns-in-Err c =
    λ hand bytes.
    let a = c.args in
    let p : Pool = pool_from a.size a.client_count a.cap 0 a.free a.last a.slots.now a.pages.now a.pins.now a.counts.now a.table_pages.now a.table_frames.now a.client_bytes.now a.client_words.now a.grant_pages.now a.grant_frames.now in
    let m : Memory = record { pages = a.store_pages; bytes = bytes; filled = a.filled.now; changed = a.changed.now } in
    let e = rw c.all.ensures at (c.in-Err.ensures.number bytes a.store.now refl) in
    c.word-in-Err.ensures ∙ ap word_of (as_refused p m a.store.now e (ap refusal_number c.in-Err.ensures.refusal) ∙ any_hand p hand m a.store.now)
