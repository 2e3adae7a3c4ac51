use Rattle.std.proofs.Common.{◌∙◌, sym, ap}
use Rattle.pool.specs.Calls.{move_of}
use Rattle.books.specs.Books.{pool_in}
use Rattle.play.proofs.Grants.{begin_is, step_is, release_is, of_begin, of_step, of_release}
use Rattle.play.proofs.call_move.Goals as goal

pub returns-in-Begin : goal.returns-in-Begin
returns-in-Begin c =
    λ clients a.
    let p = pool_in c.args.view.now.books clients in
    c.begin_move.ensures
    ∙ begin_is p c.args.view.now.client c.args.view.now.number c.in-Begin.page a.client
    ∙ ap (move_of p) (sym (of_begin c.in-Begin.is (sym c.requires.caller)))

pub returns-in-Step : goal.returns-in-Step
returns-in-Step c =
    λ clients a.
    let p = pool_in c.args.view.now.books clients in
    c.stage_move.ensures clients a.fresh
    ∙ step_is p c.args.view.now.client c.args.view.now.number 0 a.client
    ∙ ap (move_of p) (sym (of_step c.in-Step.is (sym c.requires.caller)))

pub returns-in-Release : goal.returns-in-Release
returns-in-Release c =
    λ clients a.
    let p = pool_in c.args.view.now.books clients in
    c.release_move.ensures
    ∙ release_is p c.args.view.now.client c.args.view.now.number c.in-Release.page a.client c.unwrap_or-i.result c.grant_frame-f.result c.pins.result
    (c.unwrap_or-i.ensures ∙ c.grant_of.ensures.first) c.grant_frame-f.ensures (c.pins.ensures clients)
    ∙ ap (move_of p) (sym (of_release c.in-Release.is (sym c.requires.caller)))
