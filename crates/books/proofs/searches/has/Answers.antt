use Rattle.std.proofs.Common.{rules}
use Rattle.books.proofs.Some.{some_is}
use Rattle.books.proofs.searches.has.Goals as goal

pub returns : goal.returns
returns c = λ d. rw (some_is c.args.frames.now c.args.n d c.args.f c.requires) (search rules)
