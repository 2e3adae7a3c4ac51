-- A pool that was set up is reached: nothing is in its slots and its table, every frame is evicted, every client rests. So most clauses speak of
-- nothing, and the rest count to 0. Assumes nothing.
use mathlib.Core.Path.{◌≡◌, refl, sym, ap, ◌∙◌}
use mathlib.Core.Logic.{◌≢◌, inl}
use mathlib.Core.Bool.{true}
use Prim.Native.Nat.{ℕ, ◌≤◌, ◌<◌}
use native.Mathlib.Omega.{arith}
use native.Mathlib.Decide.{dec_lt}
use lib.Dec.{eqb}
use lib.ListN.{replicate, get_or-replicate}
use borrow.Author.Tests.{ltb-true, leb-true}
use Rattle.pool.specs.Limits.{max_size, max_clients, max_frames}
use Rattle.pool.specs.State.{none, evicted, total, within, resting, no_client, slot, pins, count, entry_frame, client, grant_frame}
use Rattle.pool.specs.Valid.{numbers_ok}
use Rattle.pool.specs.Calls.{fresh, SetUp}
use Rattle.pool.specs.declared.Pool.{Pool}
use Rattle.pool.specs.declared.Client.{Client}
use Rattle.laws.specs.Choices.{by_test}
use Rattle.laws.specs.Scans.{both_true}
use Rattle.laws.specs.Setups.{of_fresh}
use Rattle.invariant.proofs.Reached.{Shape, Reached, unclaimed, one, mapped, grants_of, claims, claimed, filling}
use Rattle.invariant.proofs.After.{few_frames, within_in, within_past}
use Rattle.invariant.proofs.Sums.{sum_zero, sum_full}
use Rattle.invariant.proofs.Searches.{grant_frame_past}
use Rattle.invariant.proofs.Table.{suc_not, mapped_zero}
use Rattle.invariant.proofs.Facts.{resting_claims}

-- a list that is d throughout
pub within_same : (m n d i : ℕ) → n ≤ m → within (replicate m d) n d i ≡ d
within_same m n d i h = go (dec_lt i n)
  where
    go : Dec (i < n) → within (replicate m d) n d i ≡ d
    go (yes l) = within_in (replicate m d) n d i l ∙ get_or-replicate m i d 0 (omega arith)
    go (no l) = within_past (replicate m d) n d i (omega arith)

module _ (s t c h : ℕ) (ok : numbers_ok s t c ≡ true) where
  abbrev p : Pool
  p = fresh s t c h

  shape : Shape p
  unfolding numbers_ok
  shape =
      let a = both_true _ _ ok in
      let b = both_true _ _ a.1 in
      let d = both_true _ _ b.1 in
      let e = both_true _ _ d.1 in
      let f = both_true _ _ e.1 in
      record {
        size_low = ltb-true _ _ a.0;
        size_high = leb-true _ _ b.0;
        clients_low = ltb-true _ _ d.0;
        clients_high = leb-true _ _ e.0;
        cap_low = ltb-true _ _ f.0;
        cap_high = leb-true _ _ f.1;
        slots = refl;
        pages = refl;
        pins = refl;
        counts = refl;
        entry_pages = refl;
        entry_frames = refl;
        clients = refl;
        grant_pages = refl;
        grant_frames = refl;
      }

  slot_none : (i : ℕ) → slot p i ≡ none
  unfolding slot
  slot_none i = within_same max_size s none i shape.size_high

  pub setup_evicted : (f : ℕ) → pins p f ≡ evicted
  unfolding pins
  setup_evicted f = let n = few_frames p shape in within_same max_frames (total p) evicted f (omega arith)

  count_none : (f : ℕ) → count p f ≡ 0
  unfolding count
  count_none f = let n = few_frames p shape in within_same max_frames (total p) 0 f (omega arith)

  pub entry_none : (i : ℕ) → entry_frame p i ≡ none
  unfolding entry_frame
  entry_none i = let n = few_frames p shape in within_same max_frames (total p) none i (omega arith)

  pub setup_rests : (d : ℕ) → client p d ≡ resting 0
  unfolding client
  setup_rests d =
      let n = shape in
      by_test (λ (k : Client). k ≡ resting 0) (λ w. get_or-replicate max_clients d (resting 0) no_client (omega (arith, ltb-true d t w))) (λ _. refl)

  grant_none : (d i : ℕ) → grant_frame p d i ≡ none
  grant_none d i = grant_frame_past p d i (omega (arith, ap (λ (k : Client). k.held) (setup_rests d)))

  no_grants : (d g : ℕ) → grants_of p d g ≡ 0
  unfolding grants_of
  no_grants d g =
      sum_zero _ (client p d).held (λ i h. let z : ⊥ = omega (arith, ap (λ (k : Client). k.held) (setup_rests d)) in absurd z)

  mapped_zeros : (f : ℕ) → f ≢ none → mapped p f ≡ 0
  mapped_zeros f z = mapped_zero p f (λ i w. z (sym w ∙ entry_none i))

  pub reached_setup : Reached p
  unfolding claimed
  reached_setup =
      let n = shape in
      record {
        shape = shape;
        ranges = record {
          free_ok = omega arith;
          last_ok = inl refl;
          stage_ok = λ d. rw (setup_rests d) (omega arith);
          place_ok = λ d. rw (setup_rests d) n.size_low;
          busy_ok = λ d. rw (setup_rests d) n.size_low;
          seen_ok = λ d. rw (setup_rests d) (omega arith);
          held_ok = λ d. rw (setup_rests d) (omega arith);
          working_held = λ d. rw (setup_rests d) (λ w. absurd (w refl));
          pins_ok = λ f. rw (setup_evicted f) (omega arith);
          count_ok = λ f. rw (count_none f) (omega arith);
          slot_ok = λ i z. absurd (z (slot_none i));
          entry_ok = λ i z. absurd (z (entry_none i));
          own_ok = λ d. rw (setup_rests d) (λ z. absurd (z refl));
          found_ok = λ d. rw (setup_rests d) (λ z. absurd (z refl));
          victim_ok = λ d. rw (setup_rests d) (λ z. absurd (z refl));
          grant_ok = λ d i z. absurd (z (grant_none d i));
        };
        singles = record {
          one_each = λ d g. omega (arith, no_grants d g);
          wanted_unheld = λ d _. no_grants d (client p d).page;
        };
        places = record {
          slots_distinct = λ i j z _. absurd (z (slot_none i));
          owns_distinct = λ d e z _. absurd (z (ap (λ (k : Client). k.own) (setup_rests d)));
          unplaced_no_slot = λ d i _ z _. z (ap (λ (k : Client). k.own) (setup_rests d));
        };
        private = record {
          own_unmapped = λ d z. absurd (z (ap (λ (k : Client). k.own) (setup_rests d)));
          own_unfound = λ d e z. absurd (z (ap (λ (k : Client). k.own) (setup_rests d)));
          own_ungranted = λ d e i z. absurd (z (ap (λ (k : Client). k.own) (setup_rests d)));
        };
        pin_counts = record {
          owns_none = λ d _. ap (λ (k : Client). k.own) (setup_rests d);
          balance = λ f z. unclaimed (setup_evicted f) (sum_zero (λ d. claims p d f) t (λ d _. resting_claims p d f z (setup_rests d)));
        };
        mapping = record {
          entries_distinct = λ i j z _. absurd (z (entry_none i));
          pages_distinct = λ i j z _ _. absurd (z (entry_none i));
          grant_mapped = λ d i z. absurd (z (grant_none d i));
          grant_named = λ d i l. absurd (let w = ap (λ (k : Client). k.held) (setup_rests d) in let y : ⊥ = omega arith in y);
          knowing = λ d. rw (setup_rests d) tt;
          resident_in_slot = λ f z l _. absurd (l (setup_evicted f));
          mapped_or_owned = λ f z l. absurd (l (setup_evicted f));
          no_found = λ d _. ap (λ (k : Client). k.found) (setup_rests d);
          no_victim = λ d _. ap (λ (k : Client). k.victim) (setup_rests d);
          own_page = λ d z. absurd (z (ap (λ (k : Client). k.own) (setup_rests d)));
          mapped_page = λ f g z e. absurd (suc_not e (mapped_zeros f z));
        };
        evictions = record {
          empties = omega (
            arith,
            sum_full (λ i. one (eqb (slot p i) none)) s (λ i _. ap (λ (f : ℕ). one (eqb f none)) (slot_none i)),
            sum_zero (λ d. one (filling (client p d).stage)) t (λ d _. rw (setup_rests d) refl),
          );
          six_seen = λ d e. absurd (let w = ap (λ (k : Client). k.stage) (setup_rests d) in let y : ⊥ = omega arith in y);
          victim_place = λ d i _ z _. absurd (z (ap (λ (k : Client). k.victim) (setup_rests d)));
          evicted_mapped = λ f z n _. absurd (n (mapped_zeros f z));
        };
      }

-- ---- of the pool of an accepted setup, the first of a run

pub first_rests : {p : Pool} → SetUp p → (d : ℕ) → client p d ≡ resting 0
first_rests = of_fresh (λ p. (d : ℕ) → client p d ≡ resting 0) setup_rests

pub first_reached : {p : Pool} → SetUp p → Reached p
first_reached = of_fresh Reached reached_setup
