-- What the searches of the pool find: the look-up of a page, the unused place of the table, a client's grant on a page, the frame that stage 4 takes;
-- and what it means that a frame is not referenced: nothing at all names it. A search that finds nothing has tried every place. Assumes nothing.
use mathlib.Core.Path.{◌≡◌, refl, sym, ap, ◌∙◌}
use mathlib.Core.Logic.{◌≢◌}
use mathlib.Core.Bool.{Bool, true, false, not}
use Prim.Native.Nat.{ℕ, ◌+◌, ◌-◌, ◌≤◌, ◌<◌, ◌%◌}
use native.Mathlib.Nat.{mod-lt, mod-eq_of_lt, add-mod_right}
use native.Mathlib.Omega.{arith}
use native.Mathlib.Decide.{ℕ_discrete, dec_lt}
use lib.Dec.{eqb}
use borrow.Author.Tests.{eqb-true, eqb-false, eq-eqb, ne_eqb, not-true, not-false, le-ltb}
use Rattle.pool.specs.Choose.{some}
use Rattle.pool.specs.State.{none, evicted, number_of_clients, total, slot, pins, entry_page, entry_frame, client, of_client, grant_page, grant_frame}
use Rattle.pool.specs.Table.{maps, entry_of, lookup, unused_entry}
use Rattle.pool.specs.Grants.{grant_of, holds}
use Rattle.pool.specs.Frames.{names, referenced, first_tried, tried, free_frame}
use Rattle.pool.specs.declared.Pool.{Pool}
use Rattle.pool.specs.declared.Client.{Client}
use Rattle.laws.specs.Choices.{by_test, passed, scan_ind}
use Rattle.laws.specs.Scans.{both_true, both_yes, either_false, scan_none, some_not, first_found, first_none}
use Rattle.invariant.proofs.Reached.{Shape}
use Rattle.invariant.proofs.After.{few_frames, inside, slot_past, pins_past, entry_frame_past, entry_in, client_past}

-- ---- the table

module _ (p : Pool) (shape : Shape p) where
  some_frames : 0 < total p
  some_frames = let a = shape.size_low in omega arith

  -- what is not a frame counts as evicted, so what is not evicted is a frame
  pub none_evicted : pins p none ≡ evicted
  none_evicted = pins_past p none (omega (arith, few_frames p shape))

  pub pins_named : (f : ℕ) → pins p f ≢ evicted → f ≢ none
  pins_named f live z = live (ap (pins p) z ∙ none_evicted)

  module _ (g : ℕ) where
    entry_found : entry_of p g ≢ none → (entry_of p g < total p) × (entry_page p (entry_of p g) ≡ g) × (entry_frame p (entry_of p g) ≢ none)
    unfolding entry_of maps
    entry_found z =
        let r = first_found (maps p g) (total p) z in
        let b = both_true _ _ r.1 in
        (r.0, eqb-true _ _ b.0, eqb-false _ _ (not-true _ b.1))

    -- a look-up that finds a frame finds an entry
    pub record Found (i f : ℕ) : Type 0 where
      pub inside : i < total p
      pub entry_page : entry_page p i ≡ g
      pub entry_frame : entry_frame p i ≡ f

    pub lookup_found : lookup p g ≢ none → Found (entry_of p g) (lookup p g)
    unfolding lookup
    lookup_found z = go (ℕ_discrete (entry_of p g) none)
      where
        go : Dec (entry_of p g ≡ none) → Found (entry_of p g) (entry_frame p (entry_of p g))
        go (yes e) = absurd (z (ap (entry_frame p) e ∙ entry_frame_past p none (omega (arith, few_frames p shape))))
        go (no e) = let r = entry_found e in record { inside = r.0; entry_page = r.1; entry_frame = refl }

    -- one that finds none leaves no entry of the page
    pub lookup_none : lookup p g ≡ none → (i : ℕ) → entry_frame p i ≢ none → entry_page p i ≢ g
    unfolding lookup entry_of maps
    lookup_none e i z q = go (ℕ_discrete (entry_of p g) none)
      where
        go : Dec (entry_of p g ≡ none) → ⊥
        go (no n) = (entry_found n).2 e
        go (yes n) =
            let t : maps p g i ≡ true = both_yes _ _ (eq-eqb _ _ q) (rw (ne_eqb (entry_frame p i) none z)) in
            let f : maps p g i ≡ false = first_none (maps p g) (total p) (omega (arith, few_frames p shape)) n i (entry_in p i z) in
            let c : ◌≡◌ {A = Bool} true false = sym t ∙ f in
            let z : ◌≡◌ {A = ℕ} 0 1 = cc in
            omega arith

    -- the one entry of a page is found
    pub lookup_is : (i : ℕ) → ((j : ℕ) → entry_frame p j ≢ none → entry_page p j ≡ g → j ≡ i) → entry_frame p i ≢ none → entry_page p i ≡ g
        → (entry_of p g ≡ i) × (lookup p g ≡ entry_frame p i)
    unfolding lookup
    lookup_is i only z e =
        let n : lookup p g ≢ none = λ w. lookup_none w i z e in
        let f = lookup_found n in
        let q : entry_of p g ≡ i = only (entry_of p g) (λ w. n w) f.entry_page in
        (q, ap (entry_frame p) q)

  pub unused_found : unused_entry p ≢ none → (unused_entry p < total p) × (entry_frame p (unused_entry p) ≡ none)
  unfolding unused_entry
  unused_found z = let r = first_found (λ i. eqb (entry_frame p i) none) (total p) z in (r.0, eqb-true _ _ r.1)

  pub unused_none : unused_entry p ≡ none → (i : ℕ) → i < total p → entry_frame p i ≢ none
  unfolding unused_entry
  unused_none e i h = eqb-false _ _ (first_none (λ i. eqb (entry_frame p i) none) (total p) (omega (arith, few_frames p shape)) e i h)

-- ---- grants

pub grant_frame_past : (p : Pool) (c i : ℕ) → (client p c).held ≤ i → grant_frame p c i ≡ none
unfolding grant_frame of_client
grant_frame_past p c i h = passed _ _ _ (le-ltb i (client p c).held h)

pub grant_in : (p : Pool) (c i : ℕ) → grant_frame p c i ≢ none → i < (client p c).held
grant_in p c i z = inside i (client p c).held (λ h. z (grant_frame_past p c i h))

pub grant_of_found : (p : Pool) (c g : ℕ) → grant_of p c g ≢ none → (grant_of p c g < (client p c).held) × (grant_page p c (grant_of p c g) ≡ g)
unfolding grant_of
grant_of_found p c g z = let r = first_found (λ i. eqb (grant_page p c i) g) (client p c).held z in (r.0, eqb-true _ _ r.1)

-- ---- a frame that is not referenced

pub record Unreferenced (p : Pool) (f : ℕ) : Type 0 where
  pub no_slot : (i : ℕ) → slot p i ≢ f
  pub no_entry : (i : ℕ) → entry_frame p i ≢ f
  pub no_own : (c : ℕ) → (client p c).own ≢ f
  pub no_found : (c : ℕ) → (client p c).found ≢ f
  pub no_victim : (c : ℕ) → (client p c).victim ≢ f
  pub no_grant : (c i : ℕ) → grant_frame p c i ≢ f

module _ (p : Pool) (f : ℕ) (z : f ≢ none) where
  record Unnamed (c : ℕ) : Type 0 where
    own : (client p c).own ≢ f
    found : (client p c).found ≢ f
    victim : (client p c).victim ≢ f
    grant : (i : ℕ) → grant_frame p c i ≢ f

  unnamed : (c : ℕ) → names p f c ≡ false → Unnamed c
  unfolding names holds
  unnamed c e =
      let a = either_false _ _ e in
      let b = either_false _ _ a.1 in
      let d = either_false _ _ b.1 in
      record {
        own = eqb-false _ _ a.0;
        found = eqb-false _ _ b.0;
        victim = eqb-false _ _ d.0;
        grant = λ i w. eqb-false _ _ (some_not (λ j. eqb (grant_frame p c j) f) (client p c).held d.1 i (grant_in p c i (λ n. z (sym w ∙ n)))) w;
      }

  resting_unnamed : (c : ℕ) → number_of_clients p ≤ c → Unnamed c
  resting_unnamed c h =
      let k = client_past p c h in
      record {
        own = λ w. z (sym w ∙ ap (λ (x : Client). x.own) k);
        found = λ w. z (sym w ∙ ap (λ (x : Client). x.found) k);
        victim = λ w. z (sym w ∙ ap (λ (x : Client). x.victim) k);
        grant = λ i w. z (sym w ∙ grant_frame_past p c i (omega (arith, ap (λ (x : Client). x.held) k)));
      }

  pub unreferenced_means : referenced p f ≡ false → Unreferenced p f
  unfolding referenced
  unreferenced_means e =
      let a = either_false _ _ e in
      let b = either_false _ _ a.1 in
      record {
        no_slot = λ i. slots a.0 i (dec_lt i p.size);
        no_entry = λ i. entries b.0 i (dec_lt i (total p));
        no_own = λ c. (client_of b.1 c (dec_lt c (number_of_clients p))).own;
        no_found = λ c. (client_of b.1 c (dec_lt c (number_of_clients p))).found;
        no_victim = λ c. (client_of b.1 c (dec_lt c (number_of_clients p))).victim;
        no_grant = λ c. (client_of b.1 c (dec_lt c (number_of_clients p))).grant;
      }
    where
      slots : some (λ x. eqb (slot p x) f) p.size ≡ false → (i : ℕ) → Dec (i < p.size) → slot p i ≢ f
      slots s i (yes h) = eqb-false _ _ (some_not (λ x. eqb (slot p x) f) p.size s i h)
      slots s i (no h) = λ q. z (sym q ∙ slot_past p i (omega arith))

      entries : some (λ x. eqb (entry_frame p x) f) (total p) ≡ false → (i : ℕ) → Dec (i < total p) → entry_frame p i ≢ f
      entries s i (yes h) = eqb-false _ _ (some_not (λ x. eqb (entry_frame p x) f) (total p) s i h)
      entries s i (no h) = λ q. z (sym q ∙ entry_frame_past p i (omega arith))

      client_of : some (names p f) (number_of_clients p) ≡ false → (c : ℕ) → Dec (c < number_of_clients p) → Unnamed c
      client_of s c (yes h) = unnamed c (some_not (names p f) (number_of_clients p) s c h)
      client_of s c (no h) = resting_unnamed c (omega arith)

-- ---- the frame that stage 4 takes

module _ (p : Pool) (shape : Shape p) where
  pub free_found : free_frame p ≢ none → (free_frame p < total p) × (referenced p (free_frame p) ≡ false)
  unfolding free_frame
  free_found =
      scan_ind (λ n. not (referenced p (tried p n))) (tried p) none (λ r. r ≢ none → (r < total p) × (referenced p r ≡ false))
      (λ z. absurd (z refl)) 0 (total p)
      (λ k _ h e _. (mod-lt (first_tried p + k) (some_frames p shape), not-true _ e))

  first_below : first_tried p < total p
  unfolding first_tried
  first_below = by_test (λ (n : ℕ). n < total p) (λ _. some_frames p shape) (λ _. mod-lt (p.last + 1) (some_frames p shape))

  -- it finds none only where every frame is referenced
  pub free_none : free_frame p ≡ none → (f : ℕ) → f < total p → referenced p f ≡ true
  unfolding free_frame
  free_none e f h = go (dec_lt f s)
    where
      n : ℕ
      n = total p

      s : ℕ
      s = first_tried p

      at : (j : ℕ) → j < n → (s + j) % n ≡ f → referenced p f ≡ true
      at j r q =
          rw q at (not-false (referenced p ((s + j) % n)) (scan_none (λ x. not (referenced p (tried p x))) (tried p) none (λ r. r ≡ none) 0 n
          (λ k _ _ w. let l = mod-lt (first_tried p + k) (some_frames p shape) in let z : ⊥ = omega (arith, few_frames p shape) in z)
          e j (omega arith) (omega arith)))

      back : (a b : ℕ) → a ≤ b → a + (b - a) ≡ b
      back a b l = omega arith

      go : Dec (f < s) → referenced p f ≡ true
      go (no d) = at (f - s) (omega (arith, first_below)) (ap (λ (x : ℕ). x % n) (back s f (omega arith)) ∙ mod-eq_of_lt h)
      go (yes d) =
          at (f + n - s) (omega (arith, first_below))
          (ap (λ (x : ℕ). x % n) (back s (f + n) (omega (arith, first_below))) ∙ (add-mod_right f n ∙ mod-eq_of_lt h))
