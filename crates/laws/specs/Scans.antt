-- What `both`, `either`, `some` and `every` say, what a search finds, and what it means that it finds nothing. Assumes nothing.
use Rattle.std.specs.Prelude.{◌≡◌, ◌≢◌, ◌⊎◌, Bool, not, ◌&&◌, T}
use Rattle.std.proofs.Math.Path.{refl}
use Rattle.std.proofs.Common.{sym, ap, ◌∙◌, inl, inr, true≢false}
use Rattle.std.proofs.Math.Bool.{true, false}
use Prim.Native.Nat.{ℕ, zero, suc, ◌+◌, ◌≤◌, ◌<◌}
use native.Mathlib.Omega.{arith}
use Rattle.std.proofs.Math.Decide.{ℕ_discrete}
use Rattle.std.proofs.lemmas.Bool.{not-true, not-false}
use Rattle.pool.specs.Choose.{choose, both, either, scan, some, every}
use Rattle.pool.specs.State.{none}
use Rattle.laws.specs.Choices.{by_test, scan_ind}

-- ---- tests

pub both_true : (a b : Bool) → both a b ≡ true → (a ≡ true) × (b ≡ true)
unfolding both choose
both_true true b e = (refl, e)
both_true false b e = absurd (true≢false (sym e))

pub and_parts : (a b : Bool) → T (a && b) → T a × T b
and_parts true b h = (tt, h)
and_parts false b h = absurd h

pub both_first : (a b : Bool) → both a b ≡ true → a ≡ true
both_first a b e = (both_true a b e).0

pub both_second : (a b : Bool) → both a b ≡ true → b ≡ true
both_second a b e = (both_true a b e).1

pub both_yes : (a b : Bool) → a ≡ true → b ≡ true → both a b ≡ true
unfolding both choose
both_yes a b x y = rw (x, y)

pub either_true : (a b : Bool) → either a b ≡ true → (a ≡ true) ⊎ (b ≡ true)
unfolding either choose
either_true true b e = inl refl
either_true false b e = inr e

pub either_false : (a b : Bool) → either a b ≡ false → (a ≡ false) × (b ≡ false)
unfolding either choose
either_false true b e = absurd (true≢false e)
either_false false b e = (refl, e)

-- ---- searches

module _ {A : Type 0} (test : ℕ → Bool) (found : ℕ → A) (missing : A) where
  -- where a search passes a number by, the test fails there
  pub scan_none : (P : A → Type 0) (i n : ℕ) → ((k : ℕ) → k < i + n → test k ≡ true → P (found k) → ⊥) → P (scan test found missing i n)
      → (k : ℕ) → i ≤ k → k < i + n → test k ≡ false
  unfolding scan choose
  scan_none P i zero bar h k a b = let z : ⊥ = omega arith in absurd z
  scan_none P i (suc n) bar h k a b = go (test i) refl h (ℕ_discrete i k) (scan_none P (i + 1) n (λ k r. bar k (omega arith)))
    where
      go : (t : Bool) → test i ≡ t → P (choose t (found i) (scan test found missing (i + 1) n)) → Dec (i ≡ k)
          → (P (scan test found missing (i + 1) n) → (k : ℕ) → i + 1 ≤ k → k < i + 1 + n → test k ≡ false) → test k ≡ false
      go true e r d ih = absurd (bar i (omega arith) e r)
      go false e r (yes d) ih = rw (← d) e
      go false e r (no d) ih = ih r k (omega arith) (omega arith)

-- two searches that agree wherever one of them passes
pub scan_same : {A : Type 0} (s t : ℕ → Bool) (f g : ℕ → A) (d : A) (i n : ℕ)
    → ((k : ℕ) → k < i + n → s k ≡ t k) → ((k : ℕ) → k < i + n → t k ≡ true → f k ≡ g k) → scan s f d i n ≡ scan t g d i n
unfolding scan choose
scan_same s t f g d i zero a b = refl
scan_same s t f g d i (suc n) a b =
    rw (a i (omega arith), scan_same s t f g d (i + 1) n (λ k h. a k (omega arith)) (λ k h. b k (omega arith))) (go (t i) refl)
  where
    go : (x : Bool) → t i ≡ x → choose x (f i) (scan t g d (i + 1) n) ≡ choose x (g i) (scan t g d (i + 1) n)
    go true e = b i (omega arith) e
    go false e = refl

-- a search ends at the one number that passes
pub scan_only : {A : Type 0} (t : ℕ → Bool) (f : ℕ → A) (d : A) (i n k : ℕ) → i ≤ k → k < i + n → t k ≡ true
    → ((j : ℕ) → t j ≡ true → j ≡ k) → scan t f d i n ≡ f k
unfolding scan
scan_only t f d i zero k a b e u = let z : ⊥ = omega arith in absurd z
scan_only {A} t f d i (suc n) k a b e u =
    by_test (λ (r : A). r ≡ f k) (λ h. ap f (u i h))
    (λ h. let q : (i ≡ k → ⊥) = λ w. true≢false (sym e ∙ sym (ap t w) ∙ h) in scan_only t f d (i + 1) n k (omega arith) (omega arith) e u)

-- a search that has k to find finds it, or one before it
pub record First (test : ℕ → Bool) (k r : ℕ) : Type 0 where
  pub early : r ≤ k
  pub meets : test r ≡ true

pub first : (test : ℕ → Bool) (missing i n k : ℕ) → i ≤ k → k < i + n → test k ≡ true → First test k (scan test (λ x. x) missing i n)
unfolding scan
first test missing i zero k a b e = let z : ⊥ = omega arith in absurd z
first test missing i (suc n) k a b e =
    by_test (First test k) (λ t. record { early = a; meets = t })
    (λ f. let later : (i ≡ k → ⊥) = λ w. true≢false (sym e ∙ sym (ap test w) ∙ f) in
    first test missing (i + 1) n k (omega arith) (omega arith) e)

module _ (t : ℕ → Bool) (n : ℕ) where
  pub some_not : some t n ≡ false → (k : ℕ) → k < n → t k ≡ false
  some_not h k b = scan_none t (λ _. true) false (λ r. r ≡ false) 0 n (λ _ _ _ e. true≢false e) h k (omega arith) (omega arith)

  pub some_true : some t n ≡ true → (k : ℕ) × (k < n) × (t k ≡ true)
  some_true =
      scan_ind t (λ _. true) false (λ r. r ≡ true → (k : ℕ) × (k < n) × (t k ≡ true)) (λ e. absurd (true≢false (sym e))) 0 n
      (λ k _ h e _. (k, omega arith, e))

  pub some_yes : (k : ℕ) → k < n → t k ≡ true → some t n ≡ true
  some_yes k h e = go (some t n) refl
    where
      go : (b : Bool) → some t n ≡ b → b ≡ true
      go true _ = refl
      go false q = absurd (true≢false (sym e ∙ some_not q k h))

  pub every_at : every t n ≡ true → (k : ℕ) → k < n → t k ≡ true
  every_at h k b =
      not-false _ (scan_none (λ i. not (t i)) (λ _. false) true (λ r. r ≡ true) 0 n (λ _ _ _ e. true≢false (sym e)) h k (omega arith) (omega arith))

  pub every_yes : ((k : ℕ) → k < n → t k ≡ true) → every t n ≡ true
  every_yes h =
      scan_ind (λ i. not (t i)) (λ _. false) true (λ r. r ≡ true) refl 0 n (λ k _ b e. absurd (true≢false (sym (h k (omega arith)) ∙ not-true _ e)))

  -- the number that a search for a number finds
  pub first_found : scan t (λ i. i) none 0 n ≢ none → (scan t (λ i. i) none 0 n < n) × (t (scan t (λ i. i) none 0 n) ≡ true)
  first_found =
      scan_ind t (λ i. i) none (λ r. r ≢ none → (r < n) × (t r ≡ true)) (λ z. absurd (z refl)) 0 n (λ k _ h e _. (omega arith, e))

  pub first_none : n ≤ none → scan t (λ i. i) none 0 n ≡ none → (k : ℕ) → k < n → t k ≡ false
  first_none few e k h =
      scan_none t (λ i. i) none (λ r. r ≡ none) 0 n (λ j r _ w. let z : ⊥ = omega arith in z) e k (omega arith) (omega arith)
