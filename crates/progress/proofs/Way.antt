-- A client at 8 that meets a full slot is one slot nearer to an empty one at the next: it has claimed an empty slot at 6, so there is one, and its way
-- is the distance to the first. Assumes nothing.
use mathlib.Core.Path.{◌≡◌, refl, sym, ap, ◌∙◌}
use mathlib.Core.Logic.{◌≢◌, ◌⊎◌, inl, inr}
use mathlib.Core.Bool.{Bool}
use Prim.Native.Nat.{ℕ, zero, suc, ◌+◌, ◌-◌, ◌≤◌, ◌<◌}
use native.Mathlib.Omega.{arith}
use native.Mathlib.Decide.{dec_lt}
use lib.Dec.{eqb}
use borrow.Author.Tests.{eqb-true, eq-eqb, ltb-true, ltb-false, lt-ltb, le-ltb}
use Rattle.pool.specs.State.{none, number_of_clients, slot, client}
use Rattle.pool.specs.Stages.{around}
use Rattle.pool.specs.declared.Pool.{Pool}
use Rattle.laws.specs.Choices.{by_test, chosen, passed, scan_ind}
use Rattle.laws.specs.Scans.{First, first, scan_same}
use Rattle.invariant.proofs.Reached.{Reached}
use Rattle.invariant.proofs.Steps.{around_is}
use Rattle.invariant.proofs.Facts.{filling_empty}
use Rattle.progress.proofs.Rank.{ahead, way}

pub way_at_most : (s : ℕ) (p : Pool) (i : ℕ) → way s p i ≤ s
unfolding way
way_at_most s p i = scan_ind _ (λ d. d) s (λ n. n ≤ s) (omega arith) 0 s (λ d _ l _. omega arith)

pub way_same : (s : ℕ) (p q : Pool) → ((i : ℕ) → slot q i ≡ slot p i) → (i : ℕ) → way s q i ≡ way s p i
unfolding way
way_same s p q e i = scan_same _ _ (λ d. d) (λ d. d) s 0 s (λ d _. ap (λ (f : ℕ). eqb f none) (e (ahead s i d))) (λ d _ _. refl)

-- slot x is d places on from slot i
abbrev On : ℕ → ℕ → ℕ → ℕ → Type 0
On s i d x = (x ≡ i + d) ⊎ (x + s ≡ i + d)

ahead_on : (s i d : ℕ) → i < s → d ≤ s → (ahead s i d < s) × On s i d (ahead s i d)
unfolding ahead
ahead_on s i d h l =
    by_test (λ (n : ℕ). (n < s) × On s i d n) (λ t. (ltb-true (i + d) s t, inl refl))
    (λ t. let n = ltb-false (i + d) s t in (omega (arith, n), inr (omega (arith, n))))

-- there is no other
on_ahead : (s i d x : ℕ) → x < s → On s i d x → ahead s i d ≡ x
unfolding ahead
on_ahead s i d x l (inl e) = chosen _ _ _ (lt-ltb (i + d) s (omega arith)) ∙ sym e
on_ahead s i d x l (inr e) = passed _ _ _ (le-ltb (i + d) s (omega arith)) ∙ omega arith

-- one place more is one place from the next slot
ahead_next : (s i d : ℕ) → i < s → d < s → ahead s (around s i) d ≡ ahead s i (suc d)
ahead_next s i d h l = let x = ahead_on s i (suc d) h l in on_ahead s (around s i) d (ahead s i (suc d)) x.0 (go (around_is s i h) x.1)
  where
    y : ℕ
    y = around s i

    go : ((suc i < s) × (y ≡ suc i)) ⊎ ((suc i ≡ s) × (y ≡ 0)) → On s i (suc d) (ahead s i (suc d)) → On s y d (ahead s i (suc d))
    go (inl n) (inl e) = inl (omega (arith, n))
    go (inl n) (inr e) = inr (omega (arith, n))
    go (inr n) (inl e) = absurd (let z : ⊥ = omega (arith, n, (ahead_on s i (suc d) h l).0) in z)
    go (inr n) (inr e) = inl (omega (arith, n))

-- every slot is less than s places on
reaches : (s i j : ℕ) → i < s → j < s → (d : ℕ) × (d < s) × (ahead s i d ≡ j)
reaches s i j h l =
    elim (dec_lt j i) [
      | yes a ↦ (j + s - i, omega arith, on_ahead s i (j + s - i) j l (inr (omega arith)))
      | no a ↦ (j - i, omega arith, on_ahead s i (j - i) j l (inl (omega arith)))
    ]

-- slot i is full and some slot is empty
shorter : (s : ℕ) (p : Pool) (i j : ℕ) → i < s → j < s → slot p i ≢ none → slot p j ≡ none → way s p (around s i) < way s p i
unfolding way
shorter s p i j h l full empty = go (way s p i) found
  where
    Empty : ℕ → ℕ → Bool
    Empty i d = eqb (slot p (ahead s i d)) none

    found : First (Empty i) (reaches s i j h l).0 (way s p i)
    found = let d = reaches s i j h l in first (Empty i) s 0 s d.0 (omega arith) (omega (arith, d.1)) (eq-eqb _ none (ap (slot p) d.2 ∙ empty))

    go : (n : ℕ) → First (Empty i) (reaches s i j h l).0 n → way s p (around s i) < n
    go zero f = absurd (full (ap (slot p) (sym (on_ahead s i 0 i h (inl (omega arith)))) ∙ eqb-true _ none f.meets))
    go (suc n) f =
        let low : suc n < s = omega (arith, f.early, (reaches s i j h l).1) in
        let there = ap (λ (x : ℕ). eqb (slot p x) none) (ahead_next s i n h (omega arith)) ∙ f.meets in
        omega (arith, (first (Empty (around s i)) s 0 s n (omega arith) (omega arith) there).early)

pub way_falls : (p : Pool) → Reached p → (c : ℕ) → c < number_of_clients p → (client p c).stage ≡ 8 → slot p (client p c).place ≢ none
    → way p.size p (around p.size (client p c).place) < way p.size p (client p c).place
way_falls p r c here e full =
    let j = filling_empty p r c 8 here e tt in
    shorter p.size p (client p c).place j.0 (r.ranges.place_ok c) j.1 full j.2
