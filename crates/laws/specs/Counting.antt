-- What `how_many` counts. Assumes nothing.
use Rattle.std.specs.Prelude.{◌≡◌, Bool}
use Rattle.std.proofs.Math.Path.{refl, ap}
use Rattle.std.proofs.Common.{◌∙◌, sym, eq-zero-or-pos}
use Rattle.std.proofs.Math.Bool.{true, false, true≢false}
use Rattle.std.proofs.Math.Logic.{⊎_elim}
use native.Mathlib.Omega.{arith}
use Prim.Native.Nat.{ℕ, zero, suc, ◌<◌, ◌≤◌}
use Rattle.pool.specs.Choose.{how_many}
use Rattle.laws.specs.Choices.{by_test, passed}

module _ (test : ℕ → Bool) where
  -- a number that passes is counted
  pub counted : (n i : ℕ) → i < n → test i ≡ true → 0 < how_many test n
  unfolding how_many
  counted zero i h e = let z : ⊥ = omega arith in absurd z
  counted (suc n) i h e =
      by_test (λ m. 0 < m) (λ _. omega arith)
      (λ f. let earlier : (i ≡ n → ⊥) = λ w. true≢false (sym e ∙ ap test w ∙ f) in counted n i (omega arith) e)

  -- where any is counted, one passes
  pub one_passes : (n : ℕ) → 0 < how_many test n → (i : ℕ) × (i < n) × (test i ≡ true)
  unfolding how_many
  one_passes zero h = let z : ⊥ = omega arith in absurd z
  one_passes (suc n) h = by_last (test n) refl (λ e. one_passes n (rw (passed _ _ _ e) at h))
    where
      by_last : (b : Bool) → test n ≡ b → (test n ≡ false → (i : ℕ) × (i < n) × (test i ≡ true)) → (i : ℕ) × (i < suc n) × (test i ≡ true)
      by_last true e before = (n, omega arith, e)
      by_last false e before = let one = before e in (one.0, omega arith, one.2)

  -- where no two pass, one is counted at most
  pub once : (n : ℕ) → ((i j : ℕ) → i < n → j < n → test i ≡ true → test j ≡ true → i ≡ j) → how_many test n ≤ 1
  unfolding how_many
  once zero only = omega arith
  once (suc n) only =
      by_test (λ m. m ≤ 1)
      (λ e. ⊎_elim (λ none. omega arith)
      (λ some. let at = one_passes n some in let same = only at.0 n (omega arith) (omega arith) at.2 e in absurd (omega arith))
      (eq-zero-or-pos (how_many test n)))
      (λ _. once n (λ i j a b. only i j (omega arith) (omega arith)))
