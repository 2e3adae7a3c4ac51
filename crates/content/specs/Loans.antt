-- What a call leaves of the loans: the same references, and the same number of pages. Assumes nothing.
use Rattle.std.specs.Prelude.{◌≡◌}
use Rattle.content.specs.declared.lent.Frames.{Frames}
use Rattle.content.specs.declared.lent.Content.{Content}

pub record SameFrames (old new : Frames) : Type 0 where
  pub pages : new.pages ≡ old.pages
  pub bytes : new.bytes.ghost_name ≡ old.bytes.ghost_name
  pub filled : new.filled.ghost_name ≡ old.filled.ghost_name

pub record SameContent (old new : Content) : Type 0 where
  pub pages : new.pages ≡ old.pages
  pub bytes : new.bytes.ghost_name ≡ old.bytes.ghost_name
  pub filled : new.filled.ghost_name ≡ old.filled.ghost_name
  pub changed : new.changed.ghost_name ≡ old.changed.ghost_name
