-- The parts are books where their numbers are in range, and pass nothing where they are not. Assumes nothing.
use Rattle.std.proofs.Common.{◌∙◌, sym, ap}
use Rattle.pool.specs.Valid.{valid}
use Rattle.books.specs.Lent.{pool_lent}
use Rattle.checks.specs.Parts.{of_parts}
use Rattle.checks.proofs.Parts.{in_range_of, out_of_range}
use Rattle.checks.proofs.whole.parts_ok.Goals as goal

pub books_ok-requires : goal.books_ok-requires
books_ok-requires c = in_range_of c.in-Some.books c.args.parts.now c.in-Some.ensures.1 c.in-Some.ensures.0

pub returns-in-Some : goal.returns-in-Some
returns-in-Some c =
    c.books_ok.ensures ∙ ap valid (c.in-Some.ensures.1 c.args.clients.now) ∙ sym (of_parts (pool_lent c.args.parts.now c.args.clients.now))

pub returns-in-None : goal.returns-in-None
returns-in-None c =
    let p = pool_lent c.args.parts.now c.args.clients.now in
    sym (out_of_range p c.in-None.ensures) ∙ sym (of_parts p)
