-- What a frame weighs in two pools: no more in the second, unless it has become resident or its count was raised; a lap less, where its count was
-- lowered and is still above 0; a toll less, where it was evicted. Assumes nothing.
use mathlib.Core.Path.{◌≡◌, refl, ap, ◌∙◌}
use mathlib.Core.Logic.{◌≢◌, ◌⊎◌, inl, inr}
use mathlib.Core.Bool.{not}
use Prim.Native.Nat.{ℕ, ◌+◌, ◌-◌, ◌*◌, ◌≤◌}
use native.Mathlib.Omega.{arith}
use native.Mathlib.Nat.{mul-le-mul_left}
use native.Mathlib.Decide.{ℕ_discrete}
use lib.Dec.{eqb}
use borrow.Author.Tests.{eq-eqb, ne_eqb}
use Rattle.pool.specs.State.{evicted, pins, count}
use Rattle.pool.specs.declared.Pool.{Pool}
use Rattle.invariant.proofs.Reached.{mapped}
use Rattle.invariant.proofs.StageTests.{and_false}
use Rattle.progress.proofs.Rank.{lap, toll, resident_frame, frame_rank}
use Rattle.progress.proofs.Weights.{weigh_at_most, lowered}

module _ (s t : ℕ) where
  -- what a frame weighs if it is resident; any other weighs nothing
  abbrev pub weight : Pool → ℕ → ℕ
  weight p f = lap s * (count p f - 1) + toll s t

  module _ (p : Pool) (f : ℕ) where
    resident_is : pins p f ≢ evicted → mapped p f ≢ 0 → frame_rank s t p f ≡ weight p f
    unfolding frame_rank
    resident_is a b = rw (ne_eqb (pins p f) evicted a, ne_eqb (mapped p f) 0 b) refl

    gone_is : (pins p f ≡ evicted) ⊎ (mapped p f ≡ 0) → frame_rank s t p f ≡ 0
    unfolding frame_rank
    gone_is (inl a) = rw (eq-eqb (pins p f) evicted a) refl
    gone_is (inr b) = rw (eq-eqb (mapped p f) 0 b, and_false (not (eqb (pins p f) evicted))) refl

    pub frame_at_most : frame_rank s t p f ≤ weight p f
    unfolding frame_rank
    frame_at_most = weigh_at_most (resident_frame p f) (weight p f)

  module _ (p q : Pool) (f : ℕ) where
    pub frame_kept : (mapped q f ≢ 0 → (mapped p f ≢ 0) × (count q f ≤ count p f) × (pins p f ≡ evicted → pins q f ≡ evicted))
        → frame_rank s t q f ≤ frame_rank s t p f
    frame_kept same = go (ℕ_discrete (pins q f) evicted) (ℕ_discrete (mapped q f) 0)
      where
        go : Dec (pins q f ≡ evicted) → Dec (mapped q f ≡ 0) → frame_rank s t q f ≤ frame_rank s t p f
        go (yes a) _ = omega (arith, gone_is q f (inl a))
        go (no a) (yes b) = omega (arith, gone_is q f (inr b))
        go (no a) (no b) =
            let h = same b in
            let low : count q f - 1 ≤ count p f - 1 = omega (arith, h.1) in
            let x : lap s * (count q f - 1) ≤ lap s * (count p f - 1) = mul-le-mul_left (lap s) low in
            omega (arith, x, resident_is q f a b, resident_is p f (λ e. a (h.2 e)) h.0)

    -- a resident frame that a sweep has passed by
    pub frame_lighter : pins p f ≢ evicted → mapped p f ≢ 0 → count q f ≡ count p f - 1 → count p f - 1 ≢ 0 → frame_rank s t q f + lap s ≤ frame_rank s t p f
    frame_lighter a b e z =
        let x : lap s * (count q f - 1) + lap s ≡ lap s * (count p f - 1) =
        ap (λ (n : ℕ). lap s * (n - 1) + lap s) e ∙ lowered (lap s) (count p f - 1) z in
        omega (arith, x, frame_at_most q f, resident_is p f a b)

    -- one that was evicted
    pub frame_evicted : pins p f ≢ evicted → mapped p f ≢ 0 → pins q f ≡ evicted → frame_rank s t q f + toll s t ≤ frame_rank s t p f
    frame_evicted a b e = omega (arith, gone_is q f (inl e), resident_is p f a b)
