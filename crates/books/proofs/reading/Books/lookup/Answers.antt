use Rattle.std.proofs.Common.{◌∙◌, ap}
use Rattle.pool.specs.State.{entry_frame}
use Rattle.pool.specs.Table.{lookup}
use Rattle.books.specs.Books.{pool_in}
use Rattle.books.proofs.reading.Books.lookup.Goals as goal

pub returns-clause-frame : goal.returns-clause-frame
unfolding lookup
returns-clause-frame c = λ clients. c.entry_frame.ensures.frame clients ∙ ap (entry_frame (pool_in c.args.self.now clients)) (c.in_ok-i.ensures.place clients)
