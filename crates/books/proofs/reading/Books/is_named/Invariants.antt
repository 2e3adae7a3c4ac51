use Rattle.std.proofs.Common.{true, false}
use Rattle.pool.specs.Frames.{names}
use Rattle.laws.specs.Loops.{Left}
use Rattle.books.specs.Books.{pool_in}
use Rattle.books.proofs.reading.Books.is_named.Given as goal

abbrev pub invariant-loop-c : goal.invariant-loop-c
invariant-loop-c l = Left (names (pool_in l.self l.clients) l.f) (λ _. true) false l.self.numbers.client_count l.c
