use Rattle.std.proofs.Common.{sym, ◌∙◌, ap}
use Rattle.books.specs.Books.{pool_in}
use Rattle.answers.specs.Numbers.{stage_number}
use Rattle.actions.specs.Turn.{stage_move_is, no_stage_move}
use Rattle.actions.proofs.actor.View.stage_move.Goals as goal

pub returns-in-Some : goal.returns-in-Some
returns-in-Some c =
    λ clients taken.
    c.turn.ensures clients (λ e. taken (sym c.in-Some.ensures ∙ ap stage_number e))
    ∙ sym (stage_move_is (pool_in c.args.self.now.books clients) c.args.self.now.client c.in-Some.stage (sym c.in-Some.ensures))

pub returns-in-None : goal.returns-in-None
returns-in-None c = λ clients _. c.stuck.ensures ∙ sym (no_stage_move (pool_in c.args.self.now.books clients) c.args.self.now.client c.in-None.ensures)
