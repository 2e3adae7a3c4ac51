-- The pool is that of its books, so that what a valid pool gives is given of them. Assumes nothing.
use Rattle.std.proofs.Common.{◌≡◌, ◌∙◌, sym, ap, subst, ◌<◌, arith, true, le-ltb}
use Rattle.pool.specs.State.{client}
use Rattle.pool.specs.Valid.{valid}
use Rattle.pool.specs.declared.Pool.{Pool}
use Rattle.laws.specs.Choices.{passed}
use Rattle.laws.specs.Elements.{client_of_pool}
use Rattle.books.specs.Books.{pool_in}
use Rattle.books.specs.Extents.{numbers_hold}
use Rattle.play.specs.Decides.{Decides, IsClient, decided}
use Rattle.play.specs.Playable.{CanAct, can_act, few_grants, some_slot, record_at}
use Rattle.play.proofs.turn.Goals as goal

pub returns-then-number-pool : goal.returns-then-number-pool
returns-then-number-pool c = passed _ _ _ (le-ltb _ _ (omega arith))

pub fresh_frame-requires : goal.fresh_frame-requires
fresh_frame-requires c =
    let p = c.args.pool.now.pool.now in
    let b = c.books-books.result in
    let v : valid (pool_in b p.clients) ≡ true = ap valid c.books-books.ensures.pool ∙ c.args.pool.now.valid in
    record { some_slot = some_slot b p.clients v; few = few_grants b p.clients v }

-- there is a client with the number that was asked
there : (c : goal.After-fresh_frame) → c.caller-number.result < c.books-books.result.numbers.client_count
there c = omega (arith, c.books-books.ensures.numbers.1)

can : (c : goal.After-fresh_frame) → CanAct c.books-books.result (record_at c.args.pool.now.pool.now c.caller-number.result)
can c =
    let p = c.args.pool.now.pool.now in
    let b = c.books-books.result in
    let v : valid (pool_in b p.clients) ≡ true = ap valid c.books-books.ensures.pool ∙ c.args.pool.now.valid in
    can_act b p.clients v c.caller-number.result (there c)

pub invariant_of-view-clause-busy : goal.invariant_of-view-clause-busy
invariant_of-view-clause-busy c = (can c).busy

pub invariant_of-view-clause-held : goal.invariant_of-view-clause-held
invariant_of-view-clause-held c = (can c).held

pub invariant_of-view-clause-pins : goal.invariant_of-view-clause-pins
invariant_of-view-clause-pins c = (can c).pins

pub invariant_of-decide-clause-in_range : goal.invariant_of-decide-clause-in_range
invariant_of-decide-clause-in_range c =
    let of = c.books-books.ensures.numbers in
    rw (of.0, of.1, of.2) (numbers_hold c.args.pool.now.numbers)

pub returns : goal.returns
returns c =
    let p = c.args.pool.now.pool.now in
    let b = c.books-books.result in
    let q = pool_in b p.clients in
    let call = c.args.call in
    let n = c.caller-number.result in
    let h : n < b.numbers.client_count = omega (arith, c.books-books.ensures.numbers.1) in
    let its : IsClient q n (record_at q n) = client_of_pool q n h in
    let P : Pool → Type 0 = λ q. Decides q call c.decide.result in
    subst P c.books-books.ensures.pool
    (decided q call (record_at q n) c.decide.result (omega (arith, h, c.caller-number.ensures)) (ap (client q) (sym c.caller-number.ensures) ∙ its)
    (c.decide.ensures.answers p.clients (record { client = its; fresh = c.fresh_frame.ensures.frame })))
