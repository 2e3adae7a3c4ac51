-- Numbers that differ from place to place still differ after one place k is written, if what is written there stands nowhere else. Slots, own frames
-- and the entries' pages and frames are such numbers. Assumes nothing.
use mathlib.Core.Path.{◌≡◌, sym, ap, ◌∙◌}
use mathlib.Core.Logic.{◌≢◌}
use Prim.Native.Nat.{ℕ}
use native.Mathlib.Decide.{ℕ_discrete}
use Rattle.invariant.proofs.Reached.{Distinct}

-- the places that are used, before and after, and their numbers
module _ (Was Is : ℕ → Type 0) (g h : ℕ → ℕ) (k : ℕ) where
  pub distinct_used : ((i j : ℕ) → Was i → Was j → g i ≡ g j → i ≡ j) → ((i : ℕ) → i ≢ k → Is i → Was i) → ((i : ℕ) → i ≢ k → h i ≡ g i)
      → (Is k → (i : ℕ) → i ≢ k → Was i → g i ≢ h k) → (i j : ℕ) → Is i → Is j → h i ≡ h j → i ≡ j
  distinct_used apart used same new i j a b e = go (ℕ_discrete i k) (ℕ_discrete j k)
    where
      go : Dec (i ≡ k) → Dec (j ≡ k) → i ≡ j
      go (yes x) (yes y) = x ∙ sym y
      go (no x) (no y) = apart i j (used i x a) (used j y b) (sym (same i x) ∙ e ∙ same j y)
      go (yes x) (no y) = absurd (new (rw x at a) j y (used j y b) (sym (same j y) ∙ sym e ∙ ap h x))
      go (no x) (yes y) = absurd (new (rw y at b) i x (used i x a) (sym (same i x) ∙ e ∙ ap h y))

-- a place is used where its number is not the neutral one, z
module _ (g h : ℕ → ℕ) (z : ℕ) (apart : Distinct g z) where
  pub distinct_put : (k : ℕ) → ((i : ℕ) → i ≢ k → h i ≡ g i) → (h k ≢ z → (i : ℕ) → i ≢ k → g i ≢ h k) → Distinct h z
  distinct_put k same new i j a e =
      distinct_used (λ i. g i ≢ z) (λ i. h i ≢ z) g h k (λ i j x _ w. apart i j x w) (λ i o x w. x (same i o ∙ w)) same (λ x i o _. new x i o)
      i j a (λ w. a (e ∙ w)) e

  pub distinct_same : ((i : ℕ) → h i ≡ g i) → Distinct h z
  distinct_same same i j a e = apart i j (λ w. a (same i ∙ w)) (sym (same i) ∙ e ∙ same j)
