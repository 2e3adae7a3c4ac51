use Rattle.std.proofs.Common.{◌∙◌, sym}
use Rattle.books.specs.Books.{pool_in}
use Rattle.checks.proofs.Parts.{fails, holds}
use Rattle.checks.proofs.Stored.{few_grants}
use Rattle.checks.proofs.bytes.books_sound.Goals as goal

pub bytes_ok-requires : goal.bytes_ok-requires
bytes_ok-requires c = few_grants (pool_in c.args.books.now c.args.clients.now) (sym c.books_ok.ensures ∙ c.if-books_ok.true)

pub returns-else-books_ok : goal.returns-else-books_ok
returns-else-books_ok c = λ bytes. fails _ c.books_ok.ensures c.if-books_ok.false

pub returns-then-books_ok : goal.returns-then-books_ok
returns-then-books_ok c = λ bytes. c.bytes_ok.ensures bytes ∙ holds _ c.books_ok.ensures c.if-books_ok.true
