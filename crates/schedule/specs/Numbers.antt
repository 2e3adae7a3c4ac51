-- S, T and C, which no call changes: SPECIFICATION 1.1. Assumes nothing.
use Rattle.std.specs.Prelude.{◌≡◌}
use Rattle.pool.specs.declared.Pool.{Pool}

pub record SameNumbers (old new : Pool) : Type 0 where
  pub size : new.size ≡ old.size
  pub client_count : new.client_count ≡ old.client_count
  pub cap : new.cap ≡ old.cap
