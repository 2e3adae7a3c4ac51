-- Lists of refusal numbers (SPECIFICATION, section 6). Assumes nothing.
use Rattle.std.specs.Prelude.{◌≡◌, true, List, ℕ}
use Rattle.pool.specs.Choose.{member}

-- n is one of the numbers
abbrev pub Among : List ℕ → ℕ → Type 0
Among ns n = member n ns ≡ true
