-- The actor is a client that there is, so that what is asked of any caller holds of it, and 9 does not turn its call down. Assumes nothing.
use Rattle.std.proofs.Common.{◌∙◌, sym, ap, subst, ℕ, ◌<◌}
use Rattle.pool.specs.State.{client, number_of_clients}
use Rattle.pool.specs.Calls.{caller}
use Rattle.ranges.specs.Ranges.{numbers_in}
use Rattle.books.specs.Books.{pool_in}
use Rattle.play.specs.Decides.{IsClient, answers}
use Rattle.play.proofs.decide.Goals as goal

pub decide_any-requires-clause-clients : goal.decide_any-requires-clause-clients
decide_any-requires-clause-clients c = (numbers_in _ _ _ c.args.actor.now.in_range).clients

pub returns-clause-answers : goal.returns-clause-answers
returns-clause-answers c =
    λ clients a.
    let view = c.args.actor.now.view in
    let p = pool_in view.books clients in
    let there : caller c.args.call < number_of_clients p = subst (λ (n : ℕ). n < number_of_clients p) (sym c.requires) c.args.actor.now.known in
    let its : IsClient p (caller c.args.call) view.client = ap (client p) c.requires ∙ a.client in
    answers p c.args.call view.client c.decide_any.result there its (c.decide_any.ensures.decides clients (record { client = λ _. a.client; fresh = a.fresh }))
