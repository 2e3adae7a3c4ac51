-- A frame or a place, which is a number below `none`, or that there is none, as an option. Assumes nothing.
use Rattle.std.specs.Prelude.{ℕ, ◌≢◌, Option, Some, None, IfSome, eqb, if◌then◌else◌}
use Rattle.pool.specs.State.{none}

abbrev pub some_number : ℕ → Option ℕ
some_number n = if eqb n none then None else Some n

-- no `none` in disguise
abbrev pub IsNumber : Option ℕ → Type 0
IsNumber o = IfSome o (λ n. n ≢ none)
