-- The first i rows are laid over the numbers. Assumes nothing.
use Rattle.std.proofs.Common.{◌≡◌, ◌*◌}
use Rattle.laws.specs.Laid.{laid}
use Rattle.listing.specs.Listed.{row_numbers}
use Rattle.listing.proofs.lay.Given as goal

abbrev pub invariant-loop-i : goal.invariant-loop-i
invariant-loop-i l = l.numbers ≡ laid (row_numbers l.rows) (2 * l.i) l.initial.numbers
