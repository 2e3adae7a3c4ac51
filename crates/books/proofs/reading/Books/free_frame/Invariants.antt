use Rattle.std.proofs.Common.{◌≡◌, ◌<◌, not}
use Rattle.pool.specs.State.{none, total}
use Rattle.pool.specs.Frames.{referenced, tried}
use Rattle.laws.specs.Loops.{Left}
use Rattle.books.specs.Books.{pool_in}
use Rattle.books.proofs.reading.Books.free_frame.Given as goal

abbrev pub invariant-loop-n : goal.invariant-loop-n
invariant-loop-n l =
    let p = pool_in l.self l.clients in
    record {
      left : Left (λ n. not (referenced p (tried p n))) (tried p) none (total p) l.n;
      next : l.next ≡ tried p l.n;
      within : l.next < total p;
    }
