-- Slots, table and clients are asked one after the other, as the definition does. Assumes nothing.
use Rattle.std.proofs.Common.{◌∙◌, sym, ◌<◌, arith, get_or, refl}
use Rattle.pool.specs.State.{no_client}
use Rattle.laws.specs.Loops.{hit, misses, ends}
use Rattle.books.specs.Books.{pool_in}
use Rattle.books.proofs.Some.{names_is, rest_named, slot_named, entry_named}
use Rattle.books.proofs.reading.Books.is_named.Goals as goal

pub returns-then-in_slot : goal.returns-then-in_slot
returns-then-in_slot c =
    slot_named (pool_in c.args.self.now c.args.clients.now) c.args.f (sym (c.in_slot.ensures c.args.clients.now) ∙ c.if-in_slot.true)

pub returns-then-in_table : goal.returns-then-in_table
returns-then-in_table c =
    let k = c.args.clients.now in
    entry_named (pool_in c.args.self.now k) c.args.f (sym (c.in_slot.ensures k) ∙ c.if-in_slot.false) (sym (c.in_table.ensures k) ∙ c.if-in_table.true)

pub returns-then-names : goal.returns-then-names
returns-then-names c =
    let k = c.args.clients.now in
    let p = pool_in c.args.self.now k in
    let h : c.loop-c.c < c.args.self.now.numbers.client_count = omega arith in
    hit c.loop-c.invariant h (c.names.ensures ∙ sym (names_is p c.args.f c.loop-c.c (get_or k c.loop-c.c no_client) h refl)) c.if-names.true
    ∙ sym (rest_named p c.args.f (sym (c.in_slot.ensures k) ∙ c.if-in_slot.false) (sym (c.in_table.ensures k) ∙ c.if-in_table.false))

pub loop-c-preserved : goal.loop-c-preserved
loop-c-preserved c =
    let k = c.args.clients.now in
    let p = pool_in c.args.self.now k in
    let h : c.loop-c.c < c.args.self.now.numbers.client_count = omega arith in
    misses c.loop-c.invariant h (c.names.ensures ∙ sym (names_is p c.args.f c.loop-c.c (get_or k c.loop-c.c no_client) h refl)) c.if-names.false

pub returns : goal.returns
returns c =
    let k = c.args.clients.now in
    let p = pool_in c.args.self.now k in
    ends c.loop-c.invariant (omega arith)
    ∙ sym (rest_named p c.args.f (sym (c.in_slot.ensures k) ∙ c.if-in_slot.false) (sym (c.in_table.ensures k) ∙ c.if-in_table.false))
