-- The pigeonhole by sums: to count the places whose number is below n is to count, for each f below n, the places whose number is f.
-- Assumes nothing.
use mathlib.Core.Path.{◌≡◌, refl, ap}
use mathlib.Core.Logic.{◌≢◌}
use Prim.Native.Nat.{ℕ, zero, suc, ◌+◌, ◌≤◌, ◌<◌}
use native.Mathlib.Omega.{arith}
use native.Mathlib.Decide.{ℕ_discrete, dec_lt}
use lib.Dec.{eqb, ltb}
use borrow.Author.Tests.{eq-eqb, ne_eqb, lt-ltb, le-ltb}
use Rattle.invariant.proofs.Reached.{one, sum_to}
use Rattle.invariant.proofs.Sums.{one_at_most, sum_same, sum_zero, sum_has, sum_add, sum_at_most, sum_gap}

-- of the first n numbers that g gives: how many are below b, and how many are f
unfoldable pub below : (ℕ → ℕ) → ℕ → ℕ → ℕ
below g n b = sum_to (λ i. one (ltb (g i) b)) n

unfoldable pub equal : (ℕ → ℕ) → ℕ → ℕ → ℕ
equal g n f = sum_to (λ i. one (eqb (g i) f)) n

split_one : (n x : ℕ) → one (ltb x (suc n)) ≡ one (ltb x n) + one (eqb x n)
split_one n x = go (ℕ_discrete x n) (dec_lt x n)
  where
    go : Dec (x ≡ n) → Dec (x < n) → one (ltb x (suc n)) ≡ one (ltb x n) + one (eqb x n)
    go (yes e) d = rw (lt-ltb x (suc n) (omega arith), le-ltb x n (omega arith), eq-eqb x n e) refl
    go (no e) (yes d) = rw (lt-ltb x (suc n) (omega arith), lt-ltb x n d, ne_eqb x n e) refl
    go (no e) (no d) = rw (le-ltb x (suc n) (omega arith), le-ltb x n (omega arith), ne_eqb x n e) refl

module _ (g : ℕ → ℕ) (n : ℕ) where
  pub below_all : (b : ℕ) → below g n b ≡ sum_to (equal g n) b
  unfolding below equal sum_to
  below_all zero = sum_zero _ n (λ i _. ap one (le-ltb (g i) 0 (omega arith)))
  below_all (suc b) =
      omega (
        arith,
        sum_same (λ i. one (ltb (g i) b) + one (eqb (g i) b)) (λ i. one (ltb (g i) (suc b))) n (λ i _. split_one b (g i)),
        sum_add (λ i. one (ltb (g i) b)) (λ i. one (eqb (g i) b)) n,
        below_all b,
      )

  pub equal_has : (f i : ℕ) → i < n → g i ≡ f → 1 ≤ equal g n f
  unfolding equal
  equal_has f i h e = omega (arith, ap one (eq-eqb (g i) f e), sum_has (λ i. one (eqb (g i) f)) n i h)

  pub equal_none : (f : ℕ) → ((i : ℕ) → i < n → g i ≢ f) → equal g n f ≡ 0
  unfolding equal
  equal_none f z = sum_zero _ n (λ i h. ap one (ne_eqb _ _ (z i h)))

-- no two places have the number
pub equal_at_most : (g : ℕ → ℕ) (n f : ℕ) → ((i j : ℕ) → i < n → j < n → g i ≡ f → g j ≡ f → i ≡ j) → equal g n f ≤ 1
unfolding equal sum_to
equal_at_most g zero f apart = omega arith
equal_at_most g (suc n) f apart = go (ℕ_discrete (g n) f) (equal_at_most g n f (λ i j a b. apart i j (omega arith) (omega arith)))
  where
    go : Dec (g n ≡ f) → equal g n f ≤ 1 → equal g n f + one (eqb (g n) f) ≤ 1
    go (yes e) ih =
        let out : equal g n f ≡ 0 = equal_none g n f (λ i h w. let q : i ≡ n = apart i n (omega arith) (omega arith) w e in let z : ⊥ = omega arith in z) in
        omega (arith, ap one (eq-eqb (g n) f e))
    go (no e) ih = omega (arith, ap one (ne_eqb (g n) f e))

pub below_at_most : (g : ℕ → ℕ) (n b : ℕ) → below g n b ≤ n
unfolding below
below_at_most g n b = omega (arith, sum_at_most (λ i. one (ltb (g i) b)) n 1 (λ i _. one_at_most (ltb (g i) b)))

-- one of the places has a number that is not below b
pub below_gap : (g : ℕ → ℕ) (n b i : ℕ) → i < n → b ≤ g i → below g n b + 1 ≤ n
unfolding below
below_gap g n b i h l =
    omega (arith, sum_gap (λ i. one (ltb (g i) b)) n 1 i 1 h (λ i _. one_at_most (ltb (g i) b)) (omega (arith, ap one (le-ltb (g i) b l))))

pub below_full : (g : ℕ → ℕ) (n b : ℕ) → ((i : ℕ) → i < n → g i < b) → below g n b ≡ n
unfolding below sum_to
below_full g zero b h = refl
below_full g (suc n) b h = omega (arith, below_full g n b (λ i r. h i (omega arith)), ap one (lt-ltb (g n) b (h n (omega arith))))
