-- Each way out has one case of the definition's test at place i. A page that is new is found at place i itself, since no earlier place has it.
-- Assumes nothing.
use Rattle.std.proofs.Common.{◌≢◌, ◌∙◌, sym, ap, [], nat_lt, get_or, lt-ltb, ne_eqb, arith}
use Rattle.pool.specs.Choose.{choose, both, either}
use Rattle.pool.specs.State.{none}
use Rattle.pool.specs.Valid.{entry_ok}
use Rattle.laws.specs.Choices.{passed, tests}
use Rattle.books.specs.Books.{pool_in}
use Rattle.books.specs.Lists.{entry_in_lem}
use Rattle.checks.specs.Places.{entry_at, place_new}
use Rattle.checks.proofs.Parts.{holds, is_place}
use Rattle.checks.proofs.repeats.entry_ok.Goals as goal

pub returns-then-frame : goal.returns-then-frame
unfolding entry_ok either choose
returns-then-frame c = rw (← entry_at _ _ _ _ c.requires.place) (search tests)

pub returns-else-frame-total : goal.returns-else-frame-total
unfolding entry_ok either both choose
returns-else-frame-total c = rw (← entry_at _ _ _ _ c.requires.place) (search tests)

pub returns-then-not-met : goal.returns-then-not-met
unfolding entry_ok either both choose
returns-then-not-met c =
    rw (← entry_at _ _ _ _ c.requires.place, place_new _ _ _ _ c.requires.place (c.requires.new c.if-not-met.true) c.if-frame.false, ← c.total.ensures.value)
    (search tests)

pub returns-else-not-met : goal.returns-else-not-met
unfolding entry_ok either
returns-else-not-met c =
    let frame = get_or c.args.books.now.table_frames.now c.args.i 0 in
    let low : c.args.i ≢ none = λ e. let z : ⊥ = omega arith in z in
    rw (← entry_at _ _ _ _ c.requires.place)
    (c.eq.ensures ∙ is_place _ _ low (c.entry_of.ensures.place [] ∙ sym (entry_in_lem (pool_in c.args.books.now []) _)) ∙ holds _ (ap (nat_lt frame) c.total.ensures.value) (lt-ltb _ _ c.if-frame-total.true)
    ∙ sym (passed _ _ _ (ne_eqb _ _ c.if-frame.false)))
