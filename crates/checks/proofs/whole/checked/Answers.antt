use Rattle.std.proofs.Common.{refl}
use Rattle.pool.specs.Choose.{both}
use Rattle.pool.specs.Valid.{valid}
use Rattle.laws.specs.Choices.{passed}
use Rattle.checks.proofs.whole.checked.Goals as goal

pub returns-in_default : goal.returns-in_default
unfolding valid both
returns-in_default c = (refl, passed _ _ _ c.in_default.ensures)
