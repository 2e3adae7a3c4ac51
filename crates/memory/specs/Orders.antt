-- What the numbers that turn a call down come to, put one after the other: `first_of`, and `in_order` for a begin. Assumes nothing.
use Rattle.std.specs.Prelude.{◌≡◌, refl, ◌≢◌, ◌⊎◌}
use Rattle.std.proofs.Math.Path.{sym}
use Rattle.std.proofs.Common.{◌∙◌}
use Rattle.std.proofs.Math.Logic.{inl, inr}
use Rattle.std.proofs.Math.Decide.{ℕ_discrete}
use native.Mathlib.Omega.{arith}
use Prim.Native.Nat.{ℕ}
use borrow.Author.Tests.{eq-eqb, ne_eqb, eqb-true, eqb-false}
use Rattle.laws.specs.Choices.{by_test, chosen, passed}
use Rattle.memory.specs.Requests.{first_of, in_order}

module _ (n k : ℕ) where
  pub first_zero : n ≡ 0 → first_of n k ≡ k
  unfolding first_of
  first_zero z = chosen _ _ _ (eq-eqb n 0 z)

  pub first_some : n ≢ 0 → first_of n k ≡ n
  unfolding first_of
  first_some z = passed _ _ _ (ne_eqb n 0 z)

  -- what holds of both holds of the first
  pub first_either : (P : ℕ → Type 0) → P n → P k → P (first_of n k)
  unfolding first_of
  first_either P a b = by_test P (λ _. b) (λ _. a)

  pub first_none : first_of n k ≡ 0 → (n ≡ 0) × (k ≡ 0)
  first_none e = elim (ℕ_discrete n 0) [ yes z ↦ (z, sym (first_zero z) ∙ e) | no z ↦ absurd (z (sym (first_some z) ∙ e)) ]

module _ (n k : ℕ) where
  pub order_zero : n ≡ 0 → in_order n k ≡ k
  unfolding in_order
  order_zero z = passed _ _ _ (ne_eqb n 18 (λ e. let y : ⊥ = omega arith in y)) ∙ first_zero n k z

  -- 18 aside, what the pool turns down by comes first; and it is all there is where there is no 16
  pub order_some : n ≢ 0 → n ≢ 18 → in_order n k ≡ n
  unfolding in_order
  order_some z d = passed _ _ _ (ne_eqb n 18 d) ∙ first_some n k z

  pub order_alone : k ≡ 0 → in_order n k ≡ n
  unfolding in_order
  order_alone z = by_test (λ x. x ≡ n) (λ _. first_zero k n z) (λ _. alone (ℕ_discrete n 0))
    where
      alone : Dec (n ≡ 0) → first_of n k ≡ n
      alone (yes e) = first_zero n k e ∙ z ∙ sym e
      alone (no d) = first_some n k d

  pub order_either : (P : ℕ → Type 0) → P n → P k → P (in_order n k)
  unfolding in_order
  order_either P a b = by_test P (λ _. first_either k n P b a) (λ _. first_either n k P a b)

  -- which of the two it is
  pub order_cases : (in_order n k ≡ k) ⊎ ((n ≢ 0) × (in_order n k ≡ n))
  unfolding in_order first_of
  order_cases =
      by_test Case
      (λ t. by_test Case (λ _. inr ((λ e. let y : ⊥ = omega (arith, eqb-true n 18 t) in y), refl)) (λ _. inl refl))
      (λ _. by_test Case (λ _. inl refl) (λ f. inr (eqb-false n 0 f, refl)))
    where
      Case : ℕ → Type 0
      Case x = (x ≡ k) ⊎ ((n ≢ 0) × (x ≡ n))

  pub order_none : in_order n k ≡ 0 → (n ≡ 0) × (k ≡ 0)
  unfolding in_order
  order_none =
      by_test (λ x. x ≡ 0 → (n ≡ 0) × (k ≡ 0)) (λ _ e. let z = first_none k n e in (z.1, z.0)) (λ _ e. first_none n k e)
