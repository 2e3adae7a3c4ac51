-- What a client weighs in two pools: no more in the second, where nothing that it goes by was changed; a detour more at the most, whatever happens to
-- slots, pins and free. In both cases the table must not make it heavier. Assumes nothing.
use mathlib.Core.Path.{◌≡◌, refl, ap}
use mathlib.Core.Bool.{Bool, true, false, not, ◌&&◌, ◌||◌}
use Prim.Native.Nat.{ℕ, ◌+◌, ◌≤◌}
use native.Mathlib.Omega.{arith}
use native.Mathlib.Decide.{ℕ_discrete}
use lib.Dec.{T, eqb}
use borrow.Author.Tests.{eqb-true, eq-eqb, ne_eqb}
use Rattle.pool.specs.State.{pinned, slot, pins}
use Rattle.pool.specs.declared.Pool.{Pool}
use Rattle.pool.specs.declared.Client.{Client}
use Rattle.laws.specs.Scans.{and_parts}
use Rattle.invariant.proofs.Reached.{examining}
use Rattle.invariant.proofs.StageTests.{T_true, T_false, T_not}
use Rattle.progress.proofs.Rank.{weigh, detour, anew, way, spoilt_by, spoilt_at, wants_at, lost_at, rank_at}
use Rattle.progress.proofs.Weights.{weigh_at_most, detour_is}
use Rattle.progress.proofs.Way.{way_at_most, way_same}

-- ---- tests

-- a stage that goes by nothing that others can spoil
abbrev pub plain : ℕ → Bool
plain i = not (eqb i 6) && (not (eqb i 8) && (not (eqb i 13 || eqb i 14) && not (examining i)))

or_true : (b : Bool) → (b || true) ≡ true
or_true true = refl
or_true false = refl

-- one of three passes no more often
less_often : (x a b y : Bool) (n : ℕ) → (T a → T b) → weigh (x || (a || y)) n ≤ weigh (x || (b || y)) n
less_often true a b y n h = omega arith
less_often false true true y n h = omega arith
less_often false true false y n h = absurd (h tt)
less_often false false b true n h = rw (or_true b) (omega arith)
less_often false false b false n h = omega arith

still : (z a b : Bool) → (T z → T a → T b) → T (z && not b) → T (z && not a)
still true true b h u = absurd (T_not b u (h tt tt))
still true false b h u = tt
still false a b h u = u

-- at 13 and 14 the victim's pins count, which 14 tests
spoilt_less : (f f' n n' x x' i : ℕ) (k : Client) (w : ℕ) → f' ≡ f → x' ≡ x → (T (eqb i 13 || eqb i 14) → n ≡ pinned 0 → n' ≡ pinned 0)
    → weigh (spoilt_by f' n' x' i k) w ≤ weigh (spoilt_by f n x i k) w
spoilt_less f f' n n' x x' i k w a b same =
    rw (a, b) (less_often (eqb i 6 && not (eqb f k.seen)) ((eqb i 13 || eqb i 14) && not (eqb n' (pinned 0)))
    ((eqb i 13 || eqb i 14) && not (eqb n (pinned 0))) (examining i && not (eqb x k.victim)) w
    (still (eqb i 13 || eqb i 14) (eqb n (pinned 0)) (eqb n' (pinned 0)) (λ l e. rw (eq-eqb _ _ (same l (eqb-true _ _ (T_true _ e)))) tt)))

-- ---- a client k that stands at stage i, in pool p and in pool q

module _ (s t : ℕ) (p q : Pool) (i : ℕ) (k : Client) where
  -- what it may still look for in the table weighs no more
  abbrev pub TableTerms : Type 0
  TableTerms =
      weigh (wants_at q i k) (anew s t) + weigh (lost_at q i k) (anew s t) ≤ weigh (wants_at p i k) (anew s t) + weigh (lost_at p i k) (anew s t)

  -- it does not see the difference
  pub client_kept : q.free ≡ p.free → ((j : ℕ) → slot q j ≡ slot p j)
      → (T (eqb i 13 || eqb i 14) → pins p k.victim ≡ pinned 0 → pins q k.victim ≡ pinned 0) → TableTerms
      → rank_at s t q i k ≤ rank_at s t p i k
  unfolding rank_at
  client_kept free slots same table =
      let w : weigh (eqb i 8) (way s q k.place) ≡ weigh (eqb i 8) (way s p k.place) =
      ap (λ (n : ℕ). weigh (eqb i 8) n) (way_same s p q slots k.place) in
      omega (arith, w, table, spoilt_less p.free q.free _ _ (slot p k.place) (slot q k.place) i k (detour s) free (slots k.place) same)

  -- whatever happens to slots, pins and free
  pub client_spoilt : TableTerms → rank_at s t q i k ≤ rank_at s t p i k + detour s
  unfolding rank_at
  client_spoilt table = omega (arith, table, both (ℕ_discrete i 8))
    where
      both : Dec (i ≡ 8) → weigh (eqb i 8) (way s q k.place) + weigh (spoilt_at q i k) (detour s) ≤ detour s
      both (yes e) = rw e (omega (arith, way_at_most s q k.place, detour_is s))
      both (no e) = rw (ne_eqb i 8 e) (omega (arith, weigh_at_most (spoilt_at q i k) (detour s)))

  -- at a stage that goes by none of them
  pub client_plain : T (plain i) → TableTerms → rank_at s t q i k ≤ rank_at s t p i k
  unfolding rank_at
  client_plain h table =
      let a = and_parts (not (eqb i 6)) _ h in
      let b = and_parts (not (eqb i 8)) _ a.1 in
      let c = and_parts (not (eqb i 13 || eqb i 14)) _ b.1 in
      rw (T_false (eqb i 6) a.0, T_false (eqb i 8) b.0, T_false (eqb i 13 || eqb i 14) c.0, T_false (examining i) c.1) (omega (arith, table))
