-- A reached pool is in range, and so passes check 8. Its ranges are clauses; a client has the frames that its stage uses by what it knows there,
-- and by a clause no others; and by another no two grants of one page. Assumes nothing.
use mathlib.Core.Path.{◌≡◌, refl, sym, subst, ◌∙◌}
use mathlib.Core.Logic.{◌≢◌, ◌⊎◌, inl, inr}
use mathlib.Core.Bool.{Bool, true, false, not, true≢false}
use Prim.Native.Nat.{ℕ, ◌<◌}
use native.Mathlib.Omega.{arith}
use lib.Dec.{T}
use Rattle.pool.specs.State.{none, total, client}
use Rattle.pool.specs.Valid.{uses_own, uses_found, uses_victim, valid}
use Rattle.pool.specs.declared.Pool.{Pool}
use Rattle.pool.specs.declared.Client.{Client}
use Rattle.ranges.specs.Ranges.{Named, ClientRanged, Ranged, valid_from}
use Rattle.invariant.proofs.Reached.{Reached, Know, Owns, Placed, FoundMapped, FoundEvicted, VictimInSlot, VictimEvicted, Nothing, ◌and◌, knows}
use Rattle.laws.specs.Each.{Each, fin, ◌also◌, each_in}
use Rattle.invariant.proofs.Facts.{single}

-- ---- a client has the frames that its stage uses

record HasFrames (k : Client) (i : ℕ) : Type 0 where
  own : uses_own i ≡ true → k.own ≢ none
  found : uses_found i ≡ true → k.found ≢ none
  victim : uses_victim i ≡ true → k.victim ≢ none

false_true : {A : Type 0} {b : Bool} → b ≡ false → b ≡ true → A
false_true e w = absurd (true≢false (sym w ∙ e))

module _ (p : Pool) (k : Client) where
  abbrev GivesFrames : ℕ → Know → Type 0
  GivesFrames i x = x p k → HasFrames k i

  -- a stage that uses no frame; the own one; the found one; the own and the found one; the own one and the victim
  uses_none : (i : ℕ) → uses_own i ≡ false → uses_found i ≡ false → uses_victim i ≡ false → GivesFrames i Nothing
  uses_none i a b d h = record { own = false_true a; found = false_true b; victim = false_true d }

  uses_own_lem : (x : Know) (i : ℕ) → (x p k → k.own ≢ none) → uses_found i ≡ false → uses_victim i ≡ false → GivesFrames i x
  uses_own_lem x i o b d h = record { own = λ _. o h; found = false_true b; victim = false_true d }

  uses_found_lem : (x : Know) (i : ℕ) → (x p k → k.found ≢ none) → uses_own i ≡ false → uses_victim i ≡ false → GivesFrames i x
  uses_found_lem x i f a d h = record { own = false_true a; found = λ _. f h; victim = false_true d }

  uses_both : (x : Know) (i : ℕ) → (x p k → k.own ≢ none) → (x p k → k.found ≢ none) → uses_victim i ≡ false → GivesFrames i x
  uses_both x i o f d h = record { own = λ _. o h; found = λ _. f h; victim = false_true d }

  uses_victim_lem : (x : Know) (i : ℕ) → (x p k → k.own ≢ none) → (x p k → k.victim ≢ none) → uses_found i ≡ false → GivesFrames i x
  uses_victim_lem x i o v b h = record { own = λ _. o h; found = false_true b; victim = λ _. v h }

  gives_frames : Each GivesFrames 0 knows
  gives_frames =
      uses_none 0 refl refl refl also uses_none 1 refl refl refl also uses_found_lem FoundMapped 2 (λ h. h.0) refl refl also
      uses_found_lem FoundMapped 3 (λ h. h.0) refl refl also uses_none 4 refl refl refl also uses_own_lem Owns 5 (λ h. h) refl refl also
      uses_own_lem Owns 6 (λ h. h) refl refl also uses_own_lem Owns 7 (λ h. h) refl refl also uses_own_lem Owns 8 (λ h. h) refl refl also
      uses_own_lem Placed 9 (λ h. h.0) refl refl also uses_own_lem Owns 10 (λ h. h) refl refl also uses_own_lem Owns 11 (λ h. h) refl refl also
      uses_victim_lem (Owns and VictimInSlot) 12 (λ h. h.0) (λ h. h.1.0) refl also
      uses_victim_lem (Owns and VictimInSlot) 13 (λ h. h.0) (λ h. h.1.0) refl also
      uses_victim_lem (Owns and VictimInSlot) 14 (λ h. h.0) (λ h. h.1.0) refl also
      uses_victim_lem (Owns and VictimEvicted) 15 (λ h. h.0) (λ h. h.1.0) refl also
      uses_victim_lem (Placed and VictimEvicted) 16 (λ h. h.0.0) (λ h. h.1.0) refl also
      uses_victim_lem (Placed and VictimEvicted) 17 (λ h. h.0.0) (λ h. h.1.0) refl also uses_own_lem Placed 18 (λ h. h.0) refl refl also
      uses_both (Placed and FoundMapped) 19 (λ h. h.0.0) (λ h. h.1.0) refl also
      uses_both (Placed and FoundMapped) 20 (λ h. h.0.0) (λ h. h.1.0) refl also uses_found_lem FoundMapped 21 (λ h. h.0) refl refl also
      uses_both (Placed and FoundEvicted) 22 (λ h. h.0.0) (λ h. h.1.0) refl also uses_own_lem Placed 23 (λ h. h.0) refl refl also fin

-- a stage that does not use a frame is one of those at which the client has none
unused : {b : Bool} → b ≡ false → T (not b)
unused e = subst (λ b. T (not b)) (sym e) tt

-- ---- the ranges

module _ (p : Pool) (r : Reached p) where
  client_ranged : (c : ℕ) → ClientRanged p c
  client_ranged c =
      let k = client p c in
      let s = r.ranges in
      let h : HasFrames k k.stage =
      each_in (GivesFrames p k) Nothing knows (gives_frames p k) k.stage (omega (arith, s.stage_ok c)) (r.mapping.knowing c) in
      record {
        counts = record { stage = s.stage_ok c; held = s.held_ok c; place = s.place_ok c; busy = s.busy_ok c; seen = s.seen_ok c };
        own = record { there = λ u. s.own_ok c (h.own u); gone = λ u. r.pin_counts.owns_none c (unused u) };
        found = record { there = λ u. s.found_ok c (h.found u); gone = λ u. r.mapping.no_found c (unused u) };
        victim = record { there = λ u. s.victim_ok c (h.victim u); gone = λ u. r.mapping.no_victim c (unused u) };
        grant = λ i l. s.grant_ok c i (r.mapping.grant_named c i l);
        single = single p r c;
      }

  last_named : (p.last ≡ none) ⊎ (p.last < total p) → Named p.last → p.last < total p
  last_named (inl e) n = absurd (n e)
  last_named (inr e) n = e

  in_range : Ranged p
  in_range =
      let s = r.shape in
      record {
        numbers = record { some_slot = s.size_low; slots = s.size_high; some_client = s.clients_low; clients = s.clients_high; some_count = s.cap_low; cap = s.cap_high };
        free = r.ranges.free_ok;
        last = last_named r.ranges.last_ok;
        slot = λ i _. r.ranges.slot_ok i;
        pins = λ f _. omega (arith, r.ranges.pins_ok f, s.clients_high);
        count = λ f _. r.ranges.count_ok f;
        entry = λ i _. r.ranges.entry_ok i;
        apart = λ i j _ _. r.mapping.pages_distinct i j;
        client = λ c _. client_ranged c;
      }

  pub valid_reached : valid p ≡ true
  valid_reached = valid_from p in_range
