use Rattle.std.proofs.Common.{◌∙◌, sym, ap, arith, ne_eqb}
use Rattle.pool.specs.Choose.{choose}
use Rattle.pool.specs.State.{none}
use Rattle.books.specs.Lists.{grant_in}
use Rattle.play.proofs.Grants.{released}
use Rattle.play.proofs.release_refusal.Goals as goal

pub returns-in-Some : goal.returns-in-Some
unfolding choose
returns-in-Some c =
    λ p a pages.
    let k = c.args.client in
    let i = c.in-Some.field-0 in
    let place = c.in-Some.ensures.first ∙ ap (λ l. grant_in l c.args.number k.held c.args.page) (sym pages) in
    sym (released p k c.args.number c.args.page a c.if-client-ne0.false i place
    ∙ ap (λ b. choose b 13 0) (ne_eqb i none (omega (arith, c.in-Some.ensures.bound, c.requires.few))))

pub returns-in-None : goal.returns-in-None
unfolding choose
returns-in-None c =
    λ p a pages.
    let k = c.args.client in
    let place = c.in-None.ensures.first ∙ ap (λ l. grant_in l c.args.number k.held c.args.page) (sym pages) in
    sym (released p k c.args.number c.args.page a c.if-client-ne0.false none place)
