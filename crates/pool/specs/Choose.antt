-- Choices by a test, searches that go up through the numbers and stop at the first that passes, and whether a list has a number. Assumes nothing.
use Rattle.std.specs.Prelude.{Bool, true, false, not, ◌||◌, List, [], ◌∷◌, ℕ, zero, suc, ◌+◌, eqb}

-- Its own function and no abbreviation, so that a proof finds the two branches by their test.
unfoldable pub choose : {A : Type 0} → Bool → A → A → A
choose true x y = x
choose false x y = y

unfoldable pub both : Bool → Bool → Bool
both a b = choose a b false

unfoldable pub either : Bool → Bool → Bool
either a b = choose a true b

-- of the n numbers from i on: `found` at the first that passes the test, `missing` where none does
unfoldable pub scan : {A : Type 0} → (ℕ → Bool) → (ℕ → A) → A → ℕ → ℕ → A
scan test found missing i zero = missing
scan test found missing i (suc n) = let rest = scan test found missing (i + 1) n in choose (test i) (found i) rest

-- whether one, and whether each, of the numbers below n passes the test
abbrev pub some : (ℕ → Bool) → ℕ → Bool
some test n = scan test (λ _. true) false 0 n

abbrev pub every : (ℕ → Bool) → ℕ → Bool
every test n = scan (λ i. not (test i)) (λ _. false) true 0 n

-- how many of the numbers below n pass the test
unfoldable pub how_many : (ℕ → Bool) → ℕ → ℕ
how_many test zero = 0
how_many test (suc n) = let rest = how_many test n in choose (test n) (rest + 1) rest

-- whether n stands in the list
abbrev pub member : ℕ → List ℕ → Bool
member n [] = false
member n (x ∷ xs) = eqb x n || member n xs
