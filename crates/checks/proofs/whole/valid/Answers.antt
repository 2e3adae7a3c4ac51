use Rattle.std.proofs.Common.{◌∙◌, ap}
use Rattle.pool.specs.Valid.{valid}
use Rattle.books.specs.Lent.{pool_lent}
use Rattle.checks.specs.Parts.{of_parts}
use Rattle.checks.proofs.whole.valid.Goals as goal

pub returns : goal.returns
returns c = c.parts_ok.ensures ∙ of_parts (pool_lent c.of.result c.args.pool.now.clients) ∙ ap valid c.of.ensures
