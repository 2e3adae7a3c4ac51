-- A store of another length is refused; else the pool's own call comes first, and then what its write does to store, bytes and marks. Assumes nothing.
use Rattle.std.proofs.Common.{◌≡◌, sym, refl, rules, arith, length, ◌*◌}
use Rattle.memory.specs.Memory.{page_bytes}
use Rattle.memory.specs.Requests.{State}
use Rattle.counting.specs.Counts.{tally_from}
use Rattle.in_place.specs.Held.{pool_from, state_from}
use Rattle.served.specs.Served.{wrong_store, steps, steps_away}
use Rattle.served.proofs.foqheran_parts_step.Goals as goal

pub returns-then-store-from : goal.returns-then-store-from
returns-then-store-from c =
    let x : State = let a = c.args in state_from (pool_from a.size a.client_count a.cap a.hand.now a.free.now a.last.now a.slots.now a.pages.now a.pins.now a.counts.now a.table_pages.now a.table_frames.now a.client_bytes.now a.client_words.now a.grant_pages.now a.grant_frames.now) a.store_pages a.bytes.now a.filled.now a.changed.now a.store.now in
    wrong_store x c.args.client (λ e. c.if-store-from.true (omega (arith, e, c.from.ensures))) c.word.ensures refl

pub returns-in-Ok : goal.returns-in-Ok
returns-in-Ok c =
    let x : State = let a = c.args in state_from (pool_from a.size a.client_count a.cap a.hand.now a.free.now a.last.now a.slots.now a.pages.now a.pins.now a.counts.now a.table_pages.now a.table_frames.now a.client_bytes.now a.client_words.now a.grant_pages.now a.grant_frames.now) a.store_pages a.bytes.now a.filled.now a.changed.now a.store.now in
    let long : length c.args.store.now ≡ page_bytes * c.args.store_pages = omega (arith, c.if-store-from.false, c.from.ensures) in
    let done = steps x c.args.client long c.in-Ok.acted _ c.in-Ok.ensures.held c.in-Ok.ensures.entry (tally_from c.args.tally.now)
    c.follow.ensures.bytes c.follow.ensures.filled c.follow.ensures.changed c.follow.ensures.store c.count.ensures c.duty.ensures c.word-in-Ok.ensures in
    search (rules, done)

pub returns-in-Err : goal.returns-in-Err
returns-in-Err c =
    let x : State = let a = c.args in state_from (pool_from a.size a.client_count a.cap a.hand.now a.free.now a.last.now a.slots.now a.pages.now a.pins.now a.counts.now a.table_pages.now a.table_frames.now a.client_bytes.now a.client_words.now a.grant_pages.now a.grant_frames.now) a.store_pages a.bytes.now a.filled.now a.changed.now a.store.now in
    let long : length c.args.store.now ≡ page_bytes * c.args.store_pages = omega (arith, c.if-store-from.false, c.from.ensures) in
    let done = steps_away x c.args.client long _ _ c.in-Err.ensures.held (tally_from c.args.tally.now) c.word-in-Err.ensures refl in
    search (rules, done)
