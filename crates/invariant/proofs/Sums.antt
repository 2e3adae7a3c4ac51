-- Sums over the numbers below n: what is left of one when a term changes, when all terms but one are 0, when every term has a bound. Claims, empty
-- slots and grants are counted by such sums. Assumes nothing.
use mathlib.Core.Path.{◌≡◌, refl, sym, ap}
use mathlib.Core.Logic.{◌≢◌}
use mathlib.Core.Bool.{Bool, true, false}
use Prim.Native.Nat.{ℕ, zero, suc, ◌+◌, ◌*◌, ◌≤◌, ◌<◌}
use native.Mathlib.Omega.{arith}
use native.Mathlib.Decide.{ℕ_discrete}
use lib.Dec.{eqb}
use borrow.Author.Tests.{eq-eqb, ne_eqb}
use Rattle.pool.specs.Choose.{choose}
use Rattle.laws.specs.Choices.{chosen, passed}
use Rattle.invariant.proofs.Reached.{one, sum_to}

pub one_is : (f : ℕ) → one (eqb f f) ≡ 1
one_is f = ap one (eq-eqb f f refl)

pub one_not : (f g : ℕ) → f ≢ g → one (eqb f g) ≡ 0
one_not f g z = ap one (ne_eqb f g z)

pub one_at_most : (b : Bool) → one b ≤ 1
one_at_most true = omega arith
one_at_most false = omega arith

pub sum_same : (g h : ℕ → ℕ) (n : ℕ) → ((i : ℕ) → i < n → h i ≡ g i) → sum_to h n ≡ sum_to g n
unfolding sum_to
sum_same g h zero e = refl
sum_same g h (suc n) e = omega (arith, sum_same g h n (λ i l. e i (omega arith)), e n (omega arith))

-- one term changes
pub sum_put : (g h : ℕ → ℕ) (n k : ℕ) → k < n → ((i : ℕ) → i < n → i ≢ k → h i ≡ g i) → sum_to h n + g k ≡ sum_to g n + h k
unfolding sum_to
sum_put g h zero k l e = let z : ⊥ = omega arith in absurd z
sum_put g h (suc n) k l e = go (ℕ_discrete k n) (sum_put g h n k)
  where
    go : Dec (k ≡ n) → (k < n → ((i : ℕ) → i < n → i ≢ k → h i ≡ g i) → sum_to h n + g k ≡ sum_to g n + h k) → sum_to h n + h n + g k ≡ sum_to g n + g n + h k
    go (yes q) ih = rw q (omega (arith, sum_same g h n (λ i r. e i (omega arith) (λ w. let z : ⊥ = omega arith in z))))
    go (no q) ih = omega (arith, ih (omega arith) (λ i r w. e i (omega arith) w), e n (omega arith) (λ w. q (sym w)))

pub sum_zero : (g : ℕ → ℕ) (n : ℕ) → ((i : ℕ) → i < n → g i ≡ 0) → sum_to g n ≡ 0
unfolding sum_to
sum_zero g zero e = refl
sum_zero g (suc n) e = omega (arith, sum_zero g n (λ i l. e i (omega arith)), e n (omega arith))

-- one term alone counts
pub sum_one : (g : ℕ → ℕ) (n k : ℕ) → k < n → ((i : ℕ) → i < n → i ≢ k → g i ≡ 0) → sum_to g n ≡ g k
sum_one g n k l e = omega (arith, sum_put (λ _. 0) g n k l e, sum_zero (λ _. 0) n (λ _ _. refl))

pub sum_has : (g : ℕ → ℕ) (n k : ℕ) → k < n → g k ≤ sum_to g n
unfolding sum_to
sum_has g zero k l = let z : ⊥ = omega arith in absurd z
sum_has g (suc n) k l = go (ℕ_discrete k n) (sum_has g n k)
  where
    go : Dec (k ≡ n) → (k < n → g k ≤ sum_to g n) → g k ≤ sum_to g n + g n
    go (yes q) ih = rw q (omega arith)
    go (no q) ih = let h = ih (omega arith) in omega arith

-- two terms that are not one
pub sum_two : (g : ℕ → ℕ) (n i j : ℕ) → i < n → j < n → i ≢ j → g i + g j ≤ sum_to g n
sum_two g n i j a b d =
    let h : (ℕ → ℕ) = λ x. choose (eqb x i) 0 (g x) in
    let here : h i ≡ 0 = chosen _ _ _ (eq-eqb i i refl) in
    let other : (x : ℕ) → x ≢ i → h x ≡ g x = λ x w. passed _ _ _ (ne_eqb x i w) in
    omega (arith, here, other j (λ w. d (sym w)), sum_put g h n i a (λ x _. other x), sum_has h n j b)

-- term by term
pub sum_below : (g h : ℕ → ℕ) (n : ℕ) → ((i : ℕ) → i < n → g i ≤ h i) → sum_to g n ≤ sum_to h n
unfolding sum_to
sum_below g h zero e = omega arith
sum_below g h (suc n) e = omega (arith, sum_below g h n (λ i l. e i (omega arith)), e n (omega arith))

-- no term is above b
pub sum_at_most : (g : ℕ → ℕ) (n b : ℕ) → ((i : ℕ) → i < n → g i ≤ b) → sum_to g n ≤ b * n
unfolding sum_to
sum_at_most g zero b e = omega arith
sum_at_most g (suc n) b e = let more : b * suc n ≡ b * n + b = omega arith in omega (arith, sum_at_most g n b (λ i l. e i (omega arith)), e n (omega arith))

-- and one of them is d below it
pub sum_gap : (g : ℕ → ℕ) (n b k d : ℕ) → k < n → ((i : ℕ) → i < n → g i ≤ b) → g k + d ≤ b → sum_to g n + d ≤ b * n
unfolding sum_to
sum_gap g zero b k d l e h = let z : ⊥ = omega arith in absurd z
sum_gap g (suc n) b k d l e h = go (ℕ_discrete k n) (sum_gap g n b k d)
  where
    more : b * suc n ≡ b * n + b
    more = omega arith

    go : Dec (k ≡ n) → (k < n → ((i : ℕ) → i < n → g i ≤ b) → g k + d ≤ b → sum_to g n + d ≤ b * n) → sum_to g n + g n + d ≤ b * suc n
    go (yes q) ih = omega (arith, more, ap g q, sum_at_most g n b (λ i r. e i (omega arith)))
    go (no q) ih = omega (arith, more, ih (omega arith) (λ i r. e i (omega arith)) h, e n (omega arith))

-- every term counts
pub sum_at_least : (g : ℕ → ℕ) (n : ℕ) → ((i : ℕ) → i < n → 1 ≤ g i) → n ≤ sum_to g n
unfolding sum_to
sum_at_least g zero e = omega arith
sum_at_least g (suc n) e = omega (arith, sum_at_least g n (λ i l. e i (omega arith)), e n (omega arith))

-- a sum that is not 0 has a term that is not
pub sum_some : (g : ℕ → ℕ) (n : ℕ) → sum_to g n ≢ 0 → (i : ℕ) × (i < n) × (g i ≢ 0)
unfolding sum_to
sum_some g zero z = absurd (z refl)
sum_some g (suc n) z = go (ℕ_discrete (g n) 0) (sum_some g n)
  where
    go : Dec (g n ≡ 0) → (sum_to g n ≢ 0 → (i : ℕ) × (i < n) × (g i ≢ 0)) → (i : ℕ) × (i < suc n) × (g i ≢ 0)
    go (no q) ih = (n, omega arith, q)
    go (yes q) ih = let r = ih (λ w. z (omega arith)) in (r.0, omega (arith, r.1), r.2)

-- a sum of tests that is not 0 has one that passes
pub sum_some_test : (t : ℕ → Bool) (n : ℕ) → sum_to (λ i. one (t i)) n ≢ 0 → (i : ℕ) × (i < n) × (t i ≡ true)
sum_some_test t n z = let r = sum_some (λ i. one (t i)) n z in (r.0, r.1, passes (t r.0) r.2)
  where
    passes : (b : Bool) → one b ≢ 0 → b ≡ true
    passes true _ = refl
    passes false n = absurd (n refl)

pub sum_add : (g h : ℕ → ℕ) (n : ℕ) → sum_to (λ i. g i + h i) n ≡ sum_to g n + sum_to h n
unfolding sum_to
sum_add g h zero = refl
sum_add g h (suc n) = omega (arith, sum_add g h n)

pub sum_full : (g : ℕ → ℕ) (n : ℕ) → ((i : ℕ) → i < n → g i ≡ 1) → sum_to g n ≡ n
unfolding sum_to
sum_full g zero e = refl
sum_full g (suc n) e = omega (arith, sum_full g n (λ i l. e i (omega arith)), e n (omega arith))

-- each term but one rises by no more than b
pub sum_rise : (g h : ℕ → ℕ) (n k b : ℕ) → k < n → ((i : ℕ) → i < n → i ≢ k → h i ≤ g i + b) → sum_to h n + g k + b ≤ sum_to g n + h k + b * n
sum_rise g h n k b l e =
    let u : (ℕ → ℕ) = λ i. choose (eqb i k) (h k) (g i + b) in
    let here : u k ≡ h k = chosen _ _ _ (eq-eqb k k refl) in
    let other : (i : ℕ) → i ≢ k → u i ≡ g i + b = λ i z. passed _ _ _ (ne_eqb i k z) in
    let each : (i : ℕ) → i < n → h i ≤ u i =
    λ i r. elim (ℕ_discrete i k) [ yes q ↦ omega (arith, here, ap h q, ap u q) | no z ↦ omega (arith, other i z, e i r z) ] in
    omega (
      arith,
      here,
      sum_below h u n each,
      sum_put (λ i. g i + b) u n k l (λ i _. other i),
      sum_add g (λ _. b) n,
      sum_at_most (λ _. b) n b (λ _ _. omega arith),
    )
