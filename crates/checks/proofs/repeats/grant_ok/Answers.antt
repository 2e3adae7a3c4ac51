-- Each way out has one case of the definition's test of grant i. A grant whose page is new is found at place i itself, since no earlier one has it.
-- Assumes nothing.
use Rattle.std.proofs.Common.{◌≢◌, ◌∙◌, ap, nat_lt, get_or, ◌+◌, ◌*◌, lt-ltb, arith}
use Rattle.pool.specs.Choose.{choose, both}
use Rattle.pool.specs.State.{none}
use Rattle.pool.specs.Valid.{grant_ok}
use Rattle.laws.specs.Choices.{tests}
use Rattle.checks.specs.Places.{first_new, grant_at}
use Rattle.checks.proofs.Parts.{holds, is_place}
use Rattle.checks.proofs.repeats.grant_ok.Goals as goal

pub returns-else-books-at : goal.returns-else-books-at
unfolding grant_ok both choose
returns-else-books-at c = rw (← grant_at _ _ _ _ c.requires.place _ _) (search tests)

pub returns-then-not-met : goal.returns-then-not-met
unfolding grant_ok both choose
returns-then-not-met c =
    rw (← grant_at _ _ _ _ c.requires.place _ _, first_new _ _ _ _ c.requires.place (c.requires.new c.if-not-met.true), ← c.total.ensures.value) (search tests)

pub returns-else-not-met : goal.returns-else-not-met
unfolding grant_ok
returns-else-not-met c =
    let frame = get_or c.args.books.now.grant_frames.now (8 * c.args.c + c.args.i) 0 in
    let low : c.args.i ≢ none = λ e. let z : ⊥ = omega arith in z in
    rw (← grant_at _ _ _ _ c.requires.place _ _)
    (c.eq.ensures ∙ is_place _ _ low c.grant_of.ensures.first ∙ holds _ (ap (nat_lt frame) c.total.ensures.value) (lt-ltb _ _ c.if-books-at.true))
