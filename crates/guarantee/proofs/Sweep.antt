-- What a sweep of a client alone meets: while all rest a frame in a slot is pinned exactly if it is held, and the r busy visits before slot i are
-- those of the r slots before it, round the end. Assumes nothing.
use mathlib.Core.Path.{◌≡◌, refl, ◌∙◌}
use mathlib.Core.Logic.{◌≢◌, ◌⊎◌, inl, inr}
use mathlib.Core.Bool.{true}
use Prim.Native.Nat.{ℕ, suc, ◌+◌, ◌≤◌, ◌<◌}
use native.Mathlib.Decide.{ℕ_discrete, dec_lt}
use native.Mathlib.Omega.{arith}
use lib.Dec.{eqb}
use Rattle.pool.specs.State.{none, pinned, number_of_clients, slot, pins, client, grant_frame}
use Rattle.pool.specs.Grants.{holds, held}
use Rattle.pool.specs.Stages.{around}
use Rattle.pool.specs.declared.Pool.{Pool}
use Rattle.laws.specs.Scans.{some_yes}
use Rattle.invariant.proofs.Reached.{grants_on, claims, claimed, Balance, unclaimed, counted, orphan, Reached}
use Rattle.invariant.proofs.Sums.{sum_some, sum_some_test}
use Rattle.invariant.proofs.Facts.{none_own}
use Rattle.invariant.proofs.Steps.{around_is}

-- ---- held and pinned

module _ (p : Pool) (r : Reached p) where
  pub pins_held : ((c : ℕ) → (client p c).stage ≡ 0) → (i : ℕ) → slot p i ≢ none → pinned 1 ≤ pins p (slot p i) → held p (slot p i) ≡ true
  unfolding held holds claimed grants_on
  pins_held rest i z h = go (r.pin_counts.balance f z)
    where
      f : ℕ
      f = slot p i

      only_grants : (c : ℕ) → claims p c f ≡ grants_on p c f
      only_grants c = rw (rest c, r.pin_counts.owns_none c (rw (rest c) tt)) (omega (arith, none_own f z))

      go : Balance p f (pins p f) (claimed p f) → held p f ≡ true
      go (unclaimed x y) = absurd (omega arith)
      go (orphan o) = absurd (o.no_slot i refl)
      go (counted x) =
          let c = sum_some (λ c. claims p c f) (number_of_clients p) (λ q. omega arith) in
          let g = sum_some_test (λ j. eqb (grant_frame p c.0 j) f) (client p c.0).held (λ q. c.2 (only_grants c.0 ∙ q)) in
          some_yes (holds p f) (number_of_clients p) c.0 c.1 (some_yes (λ j. eqb (grant_frame p c.0 j) f) (client p c.0).held g.0 g.1 g.2)

-- ---- slot j is one of the r slots before slot i, of s

abbrev pub Before : ℕ → ℕ → ℕ → ℕ → Type 0
Before i r s j = ((j < i) × (i ≤ j + r)) ⊎ ((i ≤ j) × (i + s ≤ j + r))

pub before_none : (i s j : ℕ) → j < s → Before i 0 s j → ⊥
before_none i s j h (inl b) = omega (arith, b)
before_none i s j h (inr b) = omega (arith, b)

pub before_next : (i r s j : ℕ) → i < s → j < s → Before (around s i) (r + 1) s j → (j ≡ i) ⊎ Before i r s j
before_next i r s j h l b = go (around_is s i h) b (ℕ_discrete j i)
  where
    x : ℕ
    x = around s i

    go : ((suc i < s) × (x ≡ suc i)) ⊎ ((suc i ≡ s) × (x ≡ 0)) → Before x (r + 1) s j → Dec (j ≡ i) → (j ≡ i) ⊎ Before i r s j
    go n b (yes e) = inl e
    go (inl n) (inl b) (no e) = inr (inl (omega (arith, n, b), omega (arith, n, b)))
    go (inl n) (inr b) (no e) = inr (inr (omega (arith, n, b), omega (arith, n, b)))
    go (inr n) (inl b) (no e) = absurd (omega (arith, n, b))
    go (inr n) (inr b) (no e) = inr (inl (omega (arith, n, b), omega (arith, n, b)))

pub before_all : (i r s j : ℕ) → i < s → j < s → s ≤ r + 1 → (j ≡ i) ⊎ Before i r s j
before_all i r s j h l e = go (ℕ_discrete j i) (dec_lt j i)
  where
    go : Dec (j ≡ i) → Dec (j < i) → (j ≡ i) ⊎ Before i r s j
    go (yes q) _ = inl q
    go (no q) (yes d) = inr (inl (d, omega arith))
    go (no q) (no d) = inr (inr (omega arith, omega arith))

-- the slot visited is not one of those before it, and with it they are those before the next
pub before_self : (i r s : ℕ) → r < s → Before i r s i → ⊥
before_self i r s h (inl b) = omega (arith, b)
before_self i r s h (inr b) = omega (arith, b)

pub before_more : (i r s j : ℕ) → i < s → j < s → (j ≡ i) ⊎ Before i r s j → Before (around s i) (r + 1) s j
before_more i r s j h l b = go (around_is s i h) b (ℕ_discrete j i)
  where
    x : ℕ
    x = around s i

    go : ((suc i < s) × (x ≡ suc i)) ⊎ ((suc i ≡ s) × (x ≡ 0)) → (j ≡ i) ⊎ Before i r s j → Dec (j ≡ i) → Before x (r + 1) s j
    go (inl n) b (yes e) = inl (omega (arith, n), omega (arith, n))
    go (inr n) b (yes e) = inr (omega (arith, n), omega (arith, n))
    go n (inl b) (no e) = absurd (e b)
    go (inl n) (inr (inl b)) (no e) = inl (omega (arith, n, b), omega (arith, n, b))
    go (inl n) (inr (inr b)) (no e) = inr (omega (arith, n, b), omega (arith, n, b))
    go (inr n) (inr (inl b)) (no e) = inr (omega (arith, n, b), omega (arith, n, b))
    go (inr n) (inr (inr b)) (no e) = inr (omega (arith, n, b), omega (arith, n, b))

-- with as many as there are slots it is every slot
pub before_full : (i r s j : ℕ) → i ≤ s → s ≤ r → Before i r s j
before_full i r s j h e = elim (dec_lt j i) [ yes d ↦ inl (d, omega arith) | no d ↦ inr (omega arith, omega arith) ]
