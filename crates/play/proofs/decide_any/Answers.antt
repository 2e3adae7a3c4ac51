use Rattle.std.proofs.Common.{◌≡◌, ◌∙◌, sym, ap, Ok, Err}
use Rattle.pool.specs.State.{client}
use Rattle.books.specs.Books.{pool_in}
use Rattle.play.specs.Turn.{its_client, calls}
use Rattle.play.specs.Decides.{is_turn}
use Rattle.play.proofs.decide_any.Goals as goal

pub returns-in-Ok-clause-turn : goal.returns-in-Ok-clause-turn
returns-in-Ok-clause-turn c =
    λ _ clients t.
    let p = pool_in c.args.view.now.books clients in
    let its : client p c.args.view.now.number ≡ c.args.view.now.client = ap (client p) (sym c.requires.caller) ∙ its_client t c.in-Ok.ensures.known in
    is_turn (Ok c.call_move.result) t
    (sym (c.in-Ok.ensures.value p (calls t)), c.call_move.ensures clients (record { client = its; fresh = t.fresh }))

pub returns-in-Err-clause-turn : goal.returns-in-Err-clause-turn
returns-in-Err-clause-turn c =
    λ _ clients t.
    is_turn (Err c.in-Err.refusal) t (sym (c.in-Err.ensures.value (pool_in c.args.view.now.books clients) (calls t)))
