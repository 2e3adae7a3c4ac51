-- The write first, then the grants; together they are `apply`. Assumes nothing.
use Rattle.std.proofs.Common.{ap, ◌∙◌, set}
use Rattle.pool.specs.Apply.{apply}
use Rattle.books.specs.Puts.{granted}
use Rattle.books.proofs.writing.BooksMut.put.Goals as goal

pub returns-clause-applied : goal.returns-clause-applied
unfolding apply
returns-clause-applied c =
    λ clients. let after = set clients c.args.c c.args.turn.now.next in
    c.grant.ensures.granted after ∙ ap (λ p. granted p c.args.c c.args.turn.now.grants) (c.write.ensures.written after)
