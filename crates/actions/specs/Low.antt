-- That a pin more fits a frame. Assumes nothing.
use Rattle.std.specs.Prelude.{List, ℕ, ◌≤◌}
use Rattle.pool.specs.Limits.{max_pins}
use Rattle.pool.specs.State.{pinned, pins}
use Rattle.pool.specs.declared.Client.{Client}
use Rattle.books.specs.declared.reading.Books.{Books}
use Rattle.books.specs.Books.{pool_in}

abbrev pub LowPins : Books → ℕ → Type 0
LowPins b f = (clients : List Client) → pins (pool_in b clients) f ≤ pinned max_pins
