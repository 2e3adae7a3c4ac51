-- A tally that lies in an array of six numbers (SPECIFICATION 14.3). Assumes nothing.
use Rattle.std.specs.Prelude.{ℕ, get_or}
use mathlib.Core.List.{List}
use Rattle.pool.specs.declared.Tally.{Tally}
use Rattle.pool.specs.declared.Counted.{Counted}
use Rattle.pool.specs.declared.Counted.TheVariants.{Nothing, Hit, Join, Admitted, Revived, Drop, Refusal}

-- how many numbers it has
abbrev pub counts : ℕ
counts = 6

-- SPECIFICATION 14.3
abbrev pub tally_from : List ℕ → Tally
tally_from l =
    record { hits = get_or l 0 0; joins = get_or l 1 0; admitted = get_or l 2 0; revived = get_or l 3 0; drops = get_or l 4 0; refused = get_or l 5 0 }

-- the place of the number that goes up; past the end for none
unfoldable pub place_of : Counted → ℕ
place_of Hit = 0
place_of Join = 1
place_of Admitted = 2
place_of Revived = 3
place_of Drop = 4
place_of Refusal = 5
place_of Nothing = counts
