-- The turn is decided over the books as they were, and put into them, and the next record into the clients. Assumes nothing.
use Rattle.std.proofs.Common.{◌≡◌, ◌∙◌, sym, ap, subst, refl, Err}
use Rattle.std.proofs.lemmas.Result.{err_from_is_err_and}
use Rattle.pool.specs.Apply.{apply}
use Rattle.pool.specs.declared.Pool.{Pool}
use Rattle.answers.specs.declared.refusal.Refusal.{Refusal}
use Rattle.content.specs.Effects.{replaced_in}
use Rattle.books.specs.Books.{pool_in, pool_of}
use Rattle.client_arrays.specs.Loans.{clients_in, clients_of}
use Rattle.in_place.specs.Acts.{ActsTo, IsMove, acts}
use Rattle.in_place.proofs.acting.act_on.Goals as goal
use Rattle.in_place.proofs.acting.act_on.Goals.{After-turn}

abbrev before : After-turn → Pool
before c = pool_of c.args.books.now (clients_of c.args.clients.now)

-- what is lent to be read
same : (c : After-turn) → pool_in c.books.result (clients_in c.clients.result) ≡ before c
same c =
    c.books.ensures.books (clients_in c.clients.result)
    ∙ ap (pool_of c.args.books.now) (rw (c.clients.ensures.bytes, c.clients.ensures.words) refl)

pub returns-in_err-turn-clause-acts : goal.returns-in_err-turn-clause-acts
returns-in_err-turn-clause-acts c =
    let t = (goal.at.returns-in_err-turn-clause-acts c).After-turn in
    let e = err_from_is_err_and c.from_residual.result c.from_residual.ensures.1 in
    let P : Refusal → Pool → Type 0 = λ r p. ActsTo p c.args.store_pages c.args.call (Err r) p in
    rw e.1 (subst (λ r. P r (before t)) (sym e.2) (subst (P c.in_err-turn.field-0.0) (same t) c.in_err-turn.ensures.away))

pub returns-clause-acts : goal.returns-clause-acts
returns-clause-acts c =
    let t = (goal.at.returns-clause-acts c).After-turn in
    let p = before t in
    let m = c.in_ok-turn.turn in
    let made : IsMove p c.args.store_pages c.args.call m = subst (λ p. IsMove p c.args.store_pages c.args.call m) (same t) c.in_ok-turn.ensures.moved in
    acts p c.args.store_pages c.args.call made (c.replaced-entry.ensures ∙ ap (λ n. replaced_in c.args.books.now.table_frames.now n m.write) c.total.ensures.value)
    (ap (pool_of c.put.new.self) c.put-2.ensures.clients ∙ c.put.ensures.applied (clients_of c.args.clients.now)
    ∙ ap (λ i. apply p i m) (c.from-c.ensures ∙ c.caller.ensures))
