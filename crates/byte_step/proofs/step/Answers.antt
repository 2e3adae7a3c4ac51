-- A pool that does not pass check 8, or a store of another length than the first one, is turned down by 8. Else the step is the pool's own, and what it
-- wrote is put into store, bytes and marks. Assumes nothing.
use Rattle.std.proofs.Common.{rules, ◌≡◌, ap, ◌∙◌, ℕ, ◌*◌, length, arith}
use Rattle.pool.specs.State.{total, number_of_clients}
use Rattle.memory.specs.Memory.{page_bytes}
use Rattle.pool.specs.declared.Pool.{Pool}
use Rattle.content.specs.Effects.{replaced_in, replaced_of}
use Rattle.byte_step.specs.Steps.{left_unsound, left_not_long, left_step}
use Rattle.byte_step.proofs.step.Goals as goal

pub returns-in_err-checked : goal.returns-in_err-checked
returns-in_err-checked c =
    let refused = left_unsound c.args.pool.now c.args.client c.args.store.now c.in_err-checked.ensures in
    search (rules, refused)

pub returns-then-not-as_long : goal.returns-then-not-as_long
returns-then-not-as_long c =
    left_not_long c.args.pool.now c.args.client c.args.store.now (λ e. c.if-not-as_long.true (omega (arith, e, c.from.ensures)))

pub returns : goal.returns
returns c =
    let b = c.args.pool.now in
    let checked = c.in_ok-checked.checked in
    let same = c.in_ok-checked.ensures.0 in
    let frames : c.total.result ≡ total b.pool =
    omega (arith, c.total.ensures.value, checked.size, checked.client_count, ap (λ (p : Pool). p.size) same, ap number_of_clients same) in
    let w = c.call_made-made.result.write in
    let entry : c.replaced-entry.result ≡ replaced_of b.pool w =
    c.replaced-entry.ensures ∙ ap (λ (n : ℕ). replaced_in b.pool.table_frames n w) frames in
    let long : length c.args.store.now ≡ page_bytes * b.memory.pages = omega (arith, c.if-not-as_long.false, c.from.ensures) in
    let done = left_step b c.args.client c.args.store.now c.in_ok-checked.ensures long c.call_made-made.ensures
    entry c.follow.ensures.bytes c.follow.ensures.filled c.follow.ensures.changed c.follow.ensures.store in
    search (rules, done)
