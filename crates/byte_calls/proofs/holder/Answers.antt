-- The checks come in the definition's order: check 8 of the pool and of the store's length, what turns a release down, 16 and 17. Assumes nothing.
use Rattle.std.proofs.Common.{rules, ◌≡◌, ◌∙◌, sym, ap, arith, ◌*◌, length}
use Rattle.memory.specs.Memory.{page_bytes}
use Rattle.memory.specs.Requests.{ReadByte, held_frame, state_of}
use Rattle.pool.specs.State.{none}
use Rattle.pool.specs.declared.Pool.{Pool}
use Rattle.buffered.specs.Ways.{is_unsound}
use Rattle.byte_calls.specs.Passed.{its_number, few, has_one, grant_is, frame_is, passed, by_length, by_turned, by_place}
use Rattle.byte_calls.proofs.holder.Goals as goal

pub returns-in_err-checked-clause-frame : goal.returns-in_err-checked-clause-frame
returns-in_err-checked-clause-frame c =
    let a = c.args in
    let refused = is_unsound a.pool.now a.store.now (ReadByte a.client a.page a.offset) c.in_err-checked.ensures in
    search (rules, refused)

pub returns-then-not-as_long-clause-frame : goal.returns-then-not-as_long-clause-frame
returns-then-not-as_long-clause-frame c =
    let a = c.args in
    by_length (state_of a.pool.now a.store.now) a.client a.page a.offset (λ e. c.if-not-as_long.true (omega (arith, e, c.from.ensures)))

pub returns-in_err-turned_by-clause-frame : goal.returns-in_err-turned_by-clause-frame
returns-in_err-turned_by-clause-frame c =
    let a = c.args in
    let long : length a.store.now ≡ page_bytes * a.pool.now.memory.pages = omega (arith, c.if-not-as_long.false, c.from.ensures) in
    let refused = by_turned a.pool.now a.store.now a.client a.page a.offset c.in_ok-checked.ensures long _ (sym c.in_err-turned_by.ensures) in
    search (rules, refused)

pub returns-in_err-outside-clause-frame : goal.returns-in_err-outside-clause-frame
returns-in_err-outside-clause-frame c =
    let a = c.args in
    let long : length a.store.now ≡ page_bytes * a.pool.now.memory.pages = omega (arith, c.if-not-as_long.false, c.from.ensures) in
    let refused = by_place a.pool.now a.store.now a.client a.page a.offset c.in_ok-checked.ensures long (sym c.in_ok-turned_by.ensures) ∙ sym c.in_err-outside.ensures in
    search (rules, refused)

pub bounds-checked-c : goal.bounds-checked-c
bounds-checked-c c =
    let k = c.in_ok-checked.checked in
    let its = its_number k.pool.now c.args.client c.args.page k.valid (sym c.in_ok-turned_by.ensures) in
    omega (arith, its, k.client_count, k.numbers.few_clients)

pub grant_of-requires-clause-client : goal.grant_of-requires-clause-client
grant_of-requires-clause-client c =
    let k = c.in_ok-checked.checked in
    let its = its_number k.pool.now c.args.client c.args.page k.valid (sym c.in_ok-turned_by.ensures) in
    omega (arith, its, k.client_count, k.numbers.few_clients)

pub grant_of-requires-clause-few : goal.grant_of-requires-clause-few
grant_of-requires-clause-few c =
    let k = c.in_ok-checked.checked in
    few k.pool.now c.args.client c.args.page k.valid (sym c.in_ok-turned_by.ensures)

pub returns-in_default-clause-frame : goal.returns-in_default-clause-frame
returns-in_default-clause-frame c =
    let k = c.in_ok-checked.checked in
    let z = (sym c.in_ok-turned_by.ensures) in
    let q = k.pool.now in
    let found = grant_is q c.args.client c.args.page k.valid z c.books-books.result c.books-books.ensures.pool none c.in_default.ensures.first in
    absurd (has_one q c.args.client c.args.page k.valid z (sym found))

pub grant_frame-requires-clause-client : goal.grant_frame-requires-clause-client
grant_frame-requires-clause-client c =
    let k = c.in_ok-checked.checked in
    let its = its_number k.pool.now c.args.client c.args.page k.valid (sym c.in_ok-turned_by.ensures) in
    omega (arith, its, k.client_count, k.numbers.few_clients)

pub grant_frame-requires-clause-few : goal.grant_frame-requires-clause-few
grant_frame-requires-clause-few c =
    let k = c.in_ok-checked.checked in
    few k.pool.now c.args.client c.args.page k.valid (sym c.in_ok-turned_by.ensures)

pub returns-clause-frame : goal.returns-clause-frame
returns-clause-frame c =
    let a = c.args in
    let k = c.in_ok-checked.checked in
    let z = (sym c.in_ok-turned_by.ensures) in
    let long : length a.store.now ≡ page_bytes * a.pool.now.memory.pages = omega (arith, c.if-not-as_long.false, c.from.ensures) in (
      by_place a.pool.now a.store.now a.client a.page a.offset c.in_ok-checked.ensures long z ∙ sym c.in_ok-outside.ensures,
      frame_is k.pool.now a.client a.page k.valid z c.books-books.result c.books-books.ensures.pool c.in-Some.i c.in-Some.ensures.first c.grant_frame.ensures
          ∙ ap (λ (p : Pool). held_frame p a.client a.page) c.in_ok-checked.ensures.0,
    )

pub returns-clause-inside : goal.returns-clause-inside
returns-clause-inside c =
    let a = c.args in
    let long : length a.store.now ≡ page_bytes * a.pool.now.memory.pages = omega (arith, c.if-not-as_long.false, c.from.ensures) in
    let place = by_place a.pool.now a.store.now a.client a.page a.offset c.in_ok-checked.ensures long (sym c.in_ok-turned_by.ensures) in
    let past = passed (state_of a.pool.now a.store.now) a.client a.page a.offset (place ∙ sym c.in_ok-outside.ensures) in
    (past.long, past.offset)
