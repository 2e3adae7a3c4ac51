-- How large the rank of a reached pool can be. A resident frame stands in a slot of its own, and free slots are empty, so both together are at most S;
-- no count is above C, and no client's part is above three tolls and 6 S + 24. Assumes nothing.
use mathlib.Core.Path.{◌≡◌, sym, ◌∙◌}
use mathlib.Core.Bool.{Bool, true, false}
use Prim.Native.Nat.{ℕ, zero, suc, ◌+◌, ◌-◌, ◌*◌, ◌≤◌, ◌<◌}
use native.Mathlib.Omega.{arith}
use native.Mathlib.Nat.{mul-le-mul_left, mul-le-mul_right}
use native.Mathlib.Decide.{ℕ_discrete}
use lib.Dec.{eqb, ltb}
use borrow.Author.Tests.{eq-eqb, ne_eqb, le-ltb}
use Rattle.pool.specs.State.{none, evicted, number_of_clients, total, slot, pins, count, client}
use Rattle.pool.specs.declared.Pool.{Pool}
use Rattle.pool.specs.declared.Client.{Client}
use Rattle.laws.specs.Each.{fin, ◌also◌, each_in}
use Rattle.invariant.proofs.Reached.{one, sum_to, mapped, Reached}
use Rattle.invariant.proofs.After.{few_frames, slot_in}
use Rattle.invariant.proofs.Sums.{one_at_most, sum_add, sum_below, sum_at_most}
use Rattle.invariant.proofs.Searches.{pins_named}
use Rattle.invariant.proofs.Pigeonhole.{below, equal, below_all, equal_has}
use Rattle.progress.proofs.Rank.{weigh, lap, detour, toll, anew, resident_frame, frame_rank, way, spoilt_at, wants_at, lost_at, bases, rank_at, client_rank, frames, rank_of, rank}
use Rattle.progress.proofs.Weights.{weigh_at_most, detour_is, anew_is}
use Rattle.progress.proofs.Way.{way_at_most}

-- ---- one client

module _ (s t : ℕ) (p : Pool) (k : Client) (h : 1 ≤ s) where
  abbrev Within : ℕ → ℕ → Type 0
  Within i x =
      x + weigh (eqb i 8) (way s p k.place) + weigh (spoilt_at p i k) (detour s) + weigh (wants_at p i k) (anew s t) + weigh (lost_at p i k) (anew s t)
      ≤ 3 * toll s t + 6 * s + 24

  client_bounded : (i : ℕ) → i ≤ 23 → rank_at s t p i k ≤ 3 * toll s t + 6 * s + 24
  unfolding rank_at
  client_bounded i l =
      let d = detour_is s in
      let a = anew_is s t in
      let wants : weigh (wants_at p 1 k) (anew s t) ≤ anew s t = weigh_at_most (wants_at p 1 k) (anew s t) in
      let lost : weigh (lost_at p 19 k) (anew s t) ≤ anew s t = weigh_at_most (lost_at p 19 k) (anew s t) in
      let spoilt : (i : ℕ) → weigh (spoilt_at p i k) (detour s) ≤ detour s = λ i. weigh_at_most (spoilt_at p i k) (detour s) in
      each_in Within 0 (bases s t k)
      (omega arith also omega arith also omega arith also omega arith also omega arith also omega arith also omega (arith, spoilt 6) also omega arith also
      omega (arith, way_at_most s p k.place) also omega arith also omega arith also omega arith also omega (arith, spoilt 12) also
      omega (arith, spoilt 13) also omega (arith, spoilt 14) also omega (arith, spoilt 15) also omega arith also omega arith also omega arith also
      omega arith also omega arith also omega arith also omega arith also omega arith also fin)
      i (omega arith)

-- ---- all frames

-- what all that pass a test weigh, where none weighs more than w
sum_weigh : (b : ℕ → Bool) (g : ℕ → ℕ) (w n : ℕ) → ((i : ℕ) → i < n → g i ≤ w) → sum_to (λ i. weigh (b i) (g i)) n ≤ w * sum_to (λ i. one (b i)) n
unfolding sum_to
sum_weigh b g w zero h = omega arith
sum_weigh b g w (suc n) h = go (b n) (sum_weigh b g w n (λ i l. h i (omega arith)))
  where
    go : (x : Bool) → sum_to (λ i. weigh (b i) (g i)) n ≤ w * sum_to (λ i. one (b i)) n
        → sum_to (λ i. weigh (b i) (g i)) n + weigh x (g n) ≤ w * (sum_to (λ i. one (b i)) n + one x)
    go true e = let l = h n (omega arith) in omega arith
    go false e = omega arith

module _ (p : Pool) (r : Reached p) where
  residents : ℕ
  residents = sum_to (λ f. one (resident_frame p f)) (total p)

  resident_placed : (f : ℕ) → one (resident_frame p f) ≤ equal (slot p) p.size f
  resident_placed f = go (ℕ_discrete (pins p f) evicted) (ℕ_discrete (mapped p f) 0)
    where
      go : Dec (pins p f ≡ evicted) → Dec (mapped p f ≡ 0) → one (resident_frame p f) ≤ equal (slot p) p.size f
      go (yes e) _ = rw (eq-eqb (pins p f) evicted e) (omega arith)
      go (no e) (yes z) = rw (ne_eqb (pins p f) evicted e, eq-eqb (mapped p f) 0 z) (omega arith)
      go (no e) (no z) =
          let n = pins_named p r.shape f e in
          let i = r.mapping.resident_in_slot f n e z in
          omega (
            arith,
            one_at_most (resident_frame p f),
            equal_has (slot p) p.size f i.0 (slot_in p i.0 (λ w. n (sym i.1 ∙ w))) i.1,
          )

  -- a slot has a frame, or is empty
  full_or_empty : (x : ℕ) → one (ltb x (total p)) + one (eqb x none) ≤ 1
  full_or_empty x = go (ℕ_discrete x none)
    where
      go : Dec (x ≡ none) → one (ltb x (total p)) + one (eqb x none) ≤ 1
      go (yes e) = rw (le-ltb x (total p) (omega (arith, few_frames p r.shape))) (omega (arith, one_at_most (eqb x none)))
      go (no e) = rw (ne_eqb x none e) (omega (arith, one_at_most (ltb x (total p))))

  residents_and_free : residents + p.free ≤ p.size
  unfolding residents below
  residents_and_free =
      omega (
        arith,
        sum_below (λ f. one (resident_frame p f)) (equal (slot p) p.size) (total p) (λ f _. resident_placed f),
        below_all (slot p) p.size (total p),
        sum_add (λ i. one (ltb (slot p i) (total p))) (λ i. one (eqb (slot p i) none)) p.size,
        sum_at_most (λ i. one (ltb (slot p i) (total p)) + one (eqb (slot p i) none)) p.size 1 (λ i _. full_or_empty (slot p i)),
        r.evictions.empties,
      )

  frames_bounded : frames p.size (number_of_clients p) p ≤ (lap p.size * (p.cap - 1) + toll p.size (number_of_clients p)) * p.size
  unfolding frame_rank residents
  frames_bounded =
      let d : ℕ = lap p.size in
      let e : ℕ = toll p.size (number_of_clients p) in
      let w : ℕ = d * (p.cap - 1) + e in
      let each : (f : ℕ) → f < total p → d * (count p f - 1) + e ≤ w =
      λ f _. let low : count p f - 1 ≤ p.cap - 1 = omega (arith, r.ranges.count_ok f) in omega (arith, mul-le-mul_left d low) in
      let all : w * (residents + p.free) ≤ w * p.size = mul-le-mul_left w residents_and_free in
      let free : e * p.free ≤ w * p.free = mul-le-mul_right p.free (let l : e ≤ w = omega arith in l) in
      omega (arith, sum_weigh (resident_frame p) (λ f. d * (count p f - 1) + e) w (total p) each, all, free)

pub bounded : (p : Pool) → Reached p
    → let d = toll p.size (number_of_clients p) in
    rank p ≤ (lap p.size * (p.cap - 1) + d) * p.size + (3 * d + 6 * p.size + 24) * number_of_clients p
unfolding rank_of
bounded p r =
    let s : ℕ = p.size in
    let t : ℕ = number_of_clients p in
    omega (
      arith,
      frames_bounded p r,
      sum_at_most (λ c. client_rank s t p (client p c)) t (3 * toll s t + 6 * s + 24)
          (λ c _. client_bounded s t p (client p c) r.shape.size_low (client p c).stage (r.ranges.stage_ok c)),
    )
