-- The tests are the definition's, of the record that is read. Assumes nothing.
use Rattle.std.proofs.Common.{◌∙◌, sym, ap, subst, refl, Err, arith}
use Rattle.std.proofs.lemmas.Result.{err_from_is_err_and}
use Rattle.pool.specs.Choose.{choose}
use Rattle.pool.specs.State.{client}
use Rattle.answers.specs.declared.refusal.Refusal.{Refusal}
use Rattle.books.specs.Books.{pool_in}
use Rattle.client_arrays.specs.Loans.{clients_in}
use Rattle.play.specs.Decides.{Decides, decided}
use Rattle.in_place.specs.Acts.{ActsTo, no_such, no_client_fits, no_search, outside, turned_away_by, moves_on}
use Rattle.in_place.proofs.Decided.{there, its_record, client_test, search_test}
use Rattle.in_place.proofs.acting.turn.Goals as goal
use Rattle.in_place.proofs.acting.turn.Goals.{After-decide}

pub returns-then-caller-books-clause-away : goal.returns-then-caller-books-clause-away
returns-then-caller-books-clause-away c =
    no_such (pool_in c.args.books.now (clients_in c.args.clients.now)) c.args.store_pages c.args.call c.requires.numbers
    (omega (arith, c.caller-caller.ensures, c.if-caller-books.true))

pub returns-then-not-client_fits-clause-away : goal.returns-then-not-client_fits-clause-away
returns-then-not-client_fits-clause-away c =
    let b = c.args.books.now in
    let l = c.args.clients.now in
    let p = pool_in b (clients_in l) in
    let its = its_record b l c.args.call c.from.ensures c.caller-caller.ensures c.if-caller-books.false c.requires.clients c.get-client.ensures in
    no_client_fits p c.args.store_pages c.args.call c.requires.numbers (client_test p its (c.if-not-client_fits.ensures.value (clients_in l)))

pub returns-in_err-fresh-clause-away : goal.returns-in_err-fresh-clause-away
returns-in_err-fresh-clause-away c =
    let b = c.args.books.now in
    let l = c.args.clients.now in
    let p = pool_in b (clients_in l) in
    let its = its_record b l c.args.call c.from.ensures c.caller-caller.ensures c.if-caller-books.false c.requires.clients c.get-client.ensures in
    let fits = client_test p its (c.if-not-client_fits.ensures.value (clients_in l)) in
    let e = err_from_is_err_and c.from_residual.result c.from_residual.ensures.1 in
    let P : Refusal → Type 0 = λ r. ActsTo p c.args.store_pages c.args.call (Err r) p in
    rw e.1
    (subst P (sym (e.2 ∙ c.in_err-fresh.ensures.fits.1))
    (no_search p c.args.store_pages c.args.call c.requires.numbers fits (search_test p its c.in_err-fresh.ensures.fits.0)))

pub returns-then-is_outside-clause-away : goal.returns-then-is_outside-clause-away
unfolding choose
returns-then-is_outside-clause-away c =
    let b = c.args.books.now in
    let l = c.args.clients.now in
    let p = pool_in b (clients_in l) in
    let its = its_record b l c.args.call c.from.ensures c.caller-caller.ensures c.if-caller-books.false c.requires.clients c.get-client.ensures in
    let fits = client_test p its (c.if-not-client_fits.ensures.value (clients_in l)) in
    let asked = c.turned_by-turned.ensures.value p (record { count = refl; client = λ _. its; grant_pages = refl }) in
    outside p c.args.store_pages c.args.call c.requires.numbers fits (search_test p its c.in_ok-fresh.ensures.fits) c.if-is_outside.ensures asked c.outside_of.ensures

-- ---- a turn that was decided

by_decide : (c : After-decide) → Decides (pool_in c.args.books.now (clients_in c.args.clients.now)) c.args.call c.decide.result
by_decide c =
    let b = c.args.books.now in
    let l = c.args.clients.now in
    let p = pool_in b (clients_in l) in
    let its = its_record b l c.args.call c.from.ensures c.caller-caller.ensures c.if-caller-books.false c.requires.clients c.get-client.ensures in
    let h = there b l c.args.call c.from.ensures c.caller-caller.ensures c.if-caller-books.false c.requires.clients c.get-client.ensures in
    decided p c.args.call _ c.decide.result h its
    (c.decide.ensures.answers (clients_in l) (record { client = ap (client p) c.caller-caller.ensures ∙ its; fresh = c.in_ok-fresh.ensures.frame }))

pub returns-clause-away : goal.returns-clause-away
unfolding choose
returns-clause-away c =
    let b = c.args.books.now in
    let l = c.args.clients.now in
    let p = pool_in b (clients_in l) in
    let its = its_record b l c.args.call c.from.ensures c.caller-caller.ensures c.if-caller-books.false c.requires.clients c.get-client.ensures in
    let h = there b l c.args.call c.from.ensures c.caller-caller.ensures c.if-caller-books.false c.requires.clients c.get-client.ensures in
    let fits = client_test p its (c.if-not-client_fits.ensures.value (clients_in l)) in
    turned_away_by p c.args.store_pages c.args.call c.requires.numbers fits (search_test p its c.in_ok-fresh.ensures.fits) c.if-is_outside.ensures h c.decide.result
    (by_decide (goal.at.returns-clause-away c).After-decide)

pub returns-clause-moved : goal.returns-clause-moved
unfolding choose
returns-clause-moved c =
    let b = c.args.books.now in
    let l = c.args.clients.now in
    let p = pool_in b (clients_in l) in
    let its = its_record b l c.args.call c.from.ensures c.caller-caller.ensures c.if-caller-books.false c.requires.clients c.get-client.ensures in
    let h = there b l c.args.call c.from.ensures c.caller-caller.ensures c.if-caller-books.false c.requires.clients c.get-client.ensures in
    let fits = client_test p its (c.if-not-client_fits.ensures.value (clients_in l)) in
    moves_on p c.args.store_pages c.args.call c.requires.numbers fits (search_test p its c.in_ok-fresh.ensures.fits) c.if-is_outside.ensures h c.decide.result
    (by_decide (goal.at.returns-clause-moved c).After-decide)
