-- Whether a frame has a mark, as code finds it that looks at the mark's byte. Assumes nothing.
use Rattle.std.specs.Prelude.{◌≡◌, ◌≢◌, true, false, List, ℕ, ◌<◌, get_or}
use borrow.Author.Tests.{eq-eqb, ne_eqb, lt-ltb}
use Rattle.pool.specs.Limits.{max_frames}
use Rattle.pool.specs.Choose.{choose}
use Rattle.memory.specs.Memory.{is_frame, mark}

module _ (l : List ℕ) (f : ℕ) (low : f < max_frames) where
  pub mark_on : get_or l f 0 ≢ 0 → mark l f ≡ true
  unfolding mark is_frame choose
  mark_on z = rw (lt-ltb _ _ low, ne_eqb _ _ z)

  pub mark_off : get_or l f 0 ≡ 0 → mark l f ≡ false
  unfolding mark is_frame choose
  mark_off e = rw (lt-ltb _ _ low, eq-eqb _ _ e)
