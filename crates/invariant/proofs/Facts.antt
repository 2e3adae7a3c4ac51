-- What a reached pool says of one frame. An own frame has one pin, its owner's, as nobody else may name it; a frame that somebody claims is pinned, as
-- pins are claims; and no client claims a frame twice, so that there is room for one pin more. Assumes nothing.
use mathlib.Core.Path.{◌≡◌, refl, sym, ap, ◌∙◌}
use mathlib.Core.Logic.{◌≢◌, ◌⊎◌, inl, inr}
use mathlib.Core.Bool.{Bool, true, false, not, ◌&&◌, ◌||◌, true≢false}
use Prim.Native.Nat.{ℕ, suc, ◌+◌, ◌*◌, ◌≤◌, ◌<◌}
use native.Mathlib.Omega.{arith}
use native.Mathlib.Decide.{ℕ_discrete}
use lib.Dec.{T, eqb}
use borrow.Author.Tests.{eqb-true, eq-eqb, ne_eqb, ltb-true, ltb-false}
use Rattle.pool.specs.Limits.{index_count}
use Rattle.pool.specs.State.{none, evicted, pinned, number_of_clients, resting, slot, page, pins, client, grant_page, grant_frame}
use Rattle.pool.specs.Table.{lookup}
use Rattle.pool.specs.Stages.{raised, first_count}
use Rattle.pool.specs.declared.Pool.{Pool}
use Rattle.pool.specs.declared.Client.{Client}
use Rattle.laws.specs.Choices.{by_test}
use Rattle.invariant.proofs.Reached.{one, sum_to, mapped, InSlot, FoundMapped, Knows, grants_of, grants_on, claims, claimed, pins_found, unplaced, examining, Orphan, Balance, unclaimed, counted}
use Rattle.invariant.proofs.Reached.{orphan, filling, Reached}
use Rattle.invariant.proofs.StageTests.{T_true, T_false, and_false, examining_cases}
use Rattle.invariant.proofs.After.{client_here}
use Rattle.invariant.proofs.Sums.{one_is, one_not, one_at_most, sum_zero, sum_one, sum_has, sum_two, sum_below, sum_gap, sum_some_test}
use Rattle.invariant.proofs.Searches.{grant_frame_past, grant_in}
use Rattle.invariant.proofs.Table.{suc_not, some_suc, mapped_lookup}
use Rattle.invariant.proofs.Grants.{grants_on_none}
use Rattle.invariant.proofs.NeverFails.{know}

-- a count that is raised, and one that starts
pub raised_ok : (cap n : ℕ) → n ≤ cap → raised cap n ≤ cap
unfolding raised
raised_ok cap n h = by_test (λ (x : ℕ). x ≤ cap) (λ t. omega (arith, ltb-true n cap t)) (λ _. h)

pub first_ok : (cap g : ℕ) → 1 ≤ cap → first_count cap g ≤ cap
unfolding first_count
first_ok cap g h =
    by_test (λ (x : ℕ). x ≤ cap) (λ _. by_test (λ (x : ℕ). x ≤ cap) (λ _. omega arith) (λ t. omega (arith, ltb-false cap index_count t))) (λ _. h)

-- ---- claims

pub none_own : (f : ℕ) → f ≢ none → one (eqb none f) ≡ 0
none_own f z = one_not none f (λ q. z (sym q))

-- a client that has a frame neither found nor granted claims it as its own or not at all
pub foreign_claims : (p : Pool) (c f : ℕ) → (client p c).found ≢ f → ((i : ℕ) → grant_frame p c i ≢ f) → claims p c f ≡ one (eqb (client p c).own f)
foreign_claims p c f a b = rw (ne_eqb _ _ a, and_false, grants_on_none p c f b) (omega arith)

-- a client at rest without grants claims nothing
pub resting_claims : (p : Pool) (c f : ℕ) → f ≢ none → client p c ≡ resting 0 → claims p c f ≡ 0
resting_claims p c f z e =
    foreign_claims p c f (λ w. z (sym w ∙ ap (λ (k : Client). k.found) e))
    (λ i w. z (sym w ∙ grant_frame_past p c i (omega (arith, ap (λ (k : Client). k.held) e)))) ∙
    (ap (λ (k : Client). one (eqb k.own f)) e ∙ none_own f z)

pub orphan_claims : (p : Pool) (f : ℕ) → Orphan p f → claimed p f ≡ 0
unfolding claimed
orphan_claims p f o =
    sum_zero (λ c. claims p c f) (number_of_clients p) (λ c _. foreign_claims p c f (o.unfound c) (o.ungranted c) ∙ one_not _ _ (o.unowned c))

-- what a grant claims
grant_claims : (p : Pool) (c i : ℕ) → grant_frame p c i ≢ none → 1 ≤ grants_on p c (grant_frame p c i)
unfolding grants_on
grant_claims p c i z =
    let f : ℕ = grant_frame p c i in
    omega (arith, one_is f, sum_has (λ j. one (eqb (grant_frame p c j) f)) (client p c).held i (grant_in p c i z))

module _ (p : Pool) (r : Reached p) where
  -- an own frame is pinned once, by its owner
  module _ (c : ℕ) (z : (client p c).own ≢ none) where
    own_here : c < number_of_clients p
    own_here = client_here p (λ k. k.own ≢ none) c z (λ w. w refl)

    own_claimed : claimed p (client p c).own ≡ 1
    unfolding claimed
    own_claimed =
        sum_one (λ d. claims p d f) (number_of_clients p) c own_here (λ d _ q. only d ∙ one_not _ _ (λ w. q (sym (r.places.owns_distinct c d z (sym w))))) ∙
        (only c ∙ one_is f)
      where
        f : ℕ
        f = (client p c).own

        only : (d : ℕ) → claims p d f ≡ one (eqb (client p d).own f)
        only d = foreign_claims p d f (r.private.own_unfound c d z) (λ i. r.private.own_ungranted c d i z)

    pub own_pins : pins p (client p c).own ≡ pinned 1
    own_pins = go (r.pin_counts.balance (client p c).own z)
      where
        go : Balance p (client p c).own (pins p (client p c).own) (claimed p (client p c).own) → pins p (client p c).own ≡ pinned 1
        go (unclaimed x y) = omega (arith, own_claimed)
        go (counted x) = omega (arith, own_claimed)
        go (orphan o) = absurd (o.unowned c refl)

    -- so it is not evicted
    pub own_not_evicted : pins p (client p c).own ≢ evicted
    own_not_evicted e = let y : ⊥ = omega (arith, own_pins) in y

  -- a claimed frame is pinned
  claimed_pinned : (c f : ℕ) → f ≢ none → 1 ≤ claims p c f → pinned 1 ≤ pins p f
  unfolding claimed
  claimed_pinned c f z h = go (r.pin_counts.balance f z)
    where
      here : c < number_of_clients p
      here = client_here p (λ k. client p c ≡ k) c refl (λ e. let y : ⊥ = omega (arith, resting_claims p c f z e) in y)

      all : 1 ≤ claimed p f
      all = omega (arith, sum_has (λ d. claims p d f) (number_of_clients p) c here)

      go : Balance p f (pins p f) (claimed p f) → pinned 1 ≤ pins p f
      go (unclaimed x y) = omega (arith, all)
      go (counted x) = omega (arith, all)
      go (orphan o) = omega (arith, all, orphan_claims p f o)

  -- so a held frame is, and the found frame where it is pinned for its client
  pub grant_pinned : (c i : ℕ) → grant_frame p c i ≢ none → pinned 1 ≤ pins p (grant_frame p c i)
  grant_pinned c i z = claimed_pinned c (grant_frame p c i) z (omega (arith, grant_claims p c i z))

  pub found_pinned : (c : ℕ) → T (pins_found (client p c).stage) → (client p c).found ≢ none → pinned 1 ≤ pins p (client p c).found
  found_pinned c t z =
      claimed_pinned c (client p c).found z (rw (T_true (pins_found (client p c).stage) t) (omega (arith, one_is (client p c).found)))

  -- ---- a client claims a frame once

  -- two grants at one client are of two pages
  pub single : (c i j : ℕ) → i < (client p c).held → j < (client p c).held → grant_page p c i ≡ grant_page p c j → i ≡ j
  unfolding grants_of
  single c i j a b e = elim (ℕ_discrete i j) [
    | yes w ↦ w
    | no w ↦
        let g : ℕ = grant_page p c j in
        let two = sum_two (λ x. one (eqb (grant_page p c x) g)) (client p c).held i j a b w in
        absurd (omega (arith, r.singles.one_each c g, ap one (eq-eqb _ _ e), one_is g))
  ]

  -- the grants on a frame are of the page that is mapped to it
  grants_on_lem : (c f g : ℕ) → f ≢ none → mapped p f ≡ suc g → grants_on p c f ≤ grants_of p c g
  unfolding grants_on grants_of
  grants_on_lem c f g z e =
      sum_below (λ i. one (eqb (grant_frame p c i) f)) (λ i. one (eqb (grant_page p c i) g)) (client p c).held (λ i _. go i (ℕ_discrete (grant_frame p c i) f))
    where
      go : (i : ℕ) → Dec (grant_frame p c i ≡ f) → one (eqb (grant_frame p c i) f) ≤ one (eqb (grant_page p c i) g)
      go i (no w) = omega (arith, one_not _ _ w)
      go i (yes w) =
          let s : suc (grant_page p c i) ≡ suc g = sym (r.mapping.grant_mapped c i (λ n. z (sym w ∙ n))) ∙ ap (mapped p) w ∙ e in
          let same : grant_page p c i ≡ g = omega arith in
          omega (arith, ap one (eq-eqb _ _ same), one_at_most (eqb (grant_frame p c i) f))

  -- it is its page's frame that a working client finds, and it holds none of that page
  found_ungranted : (c : ℕ) → (client p c).stage ≢ 0 → (client p c).found ≢ none → mapped p (client p c).found ≡ suc (client p c).page
      → grants_on p c (client p c).found ≡ 0
  found_ungranted c s z e = omega (arith, grants_on_lem c (client p c).found (client p c).page z e, r.singles.wanted_unheld c s)

  -- a client for which its found frame is pinned: the frame is its page's
  pub found_mapped : (c : ℕ) → pins_found (client p c).stage ≡ true → FoundMapped p (client p c)
  found_mapped c e = go (eqb s 3) (eqb s 20) (eqb s 21) refl refl refl e
    where
      s : ℕ
      s = (client p c).stage

      at : (i : ℕ) → eqb s i ≡ true → Knows i p (client p c)
      at i t = know p r c i (eqb-true s i t)

      go : (x y z : Bool) → eqb s 3 ≡ x → eqb s 20 ≡ y → eqb s 21 ≡ z → x || y || z ≡ true → FoundMapped p (client p c)
      go true y z a b d u = at 3 a
      go false true z a b d u = (at 20 b).1
      go false false true a b d u = at 21 d
      go false false false a b d u = absurd (true≢false (sym u))

  grants_at_most : (c f : ℕ) → f ≢ none → grants_on p c f ≤ 1
  grants_at_most c f z = elim (ℕ_discrete (mapped p f) 0) [
    | yes e ↦ omega (arith, grants_on_none p c f (λ i w. suc_not (r.mapping.grant_mapped c i (λ n. z (sym w ∙ n))) (ap (mapped p) w ∙ e)))
    | no e ↦ let g = some_suc (mapped p f) e in omega (arith, grants_on_lem c f g.0 z g.1, r.singles.one_each c g.0)
  ]

  -- by a grant, or as the found frame that is pinned for it, or as its own
  claims_at_most : (c f : ℕ) → f ≢ none → claims p c f ≤ 1
  claims_at_most c f z = go (ℕ_discrete (client p c).own f) (ℕ_discrete (client p c).found f) (pins_found (client p c).stage) refl
    where
      k : Client
      k = client p c

      go : Dec (k.own ≡ f) → Dec (k.found ≡ f) → (b : Bool) → pins_found k.stage ≡ b → claims p c f ≤ 1
      go (yes e) _ _ _ =
          let o : k.own ≢ none = λ w. z (sym e ∙ w) in
          let only = foreign_claims p c f (λ w. r.private.own_unfound c c o (w ∙ sym e)) (λ i w. r.private.own_ungranted c c i o (w ∙ sym e)) in
          omega (arith, one_at_most (eqb k.own f))
      go (no e) (no u) b _ = rw (ne_eqb _ _ u, and_false) (omega (arith, one_not _ _ e, grants_at_most c f z))
      go (no e) (yes u) false s = rw s (omega (arith, one_not _ _ e, grants_at_most c f z))
      go (no e) (yes u) true s =
          let live : pins p k.found ≢ evicted = λ n. let y : ⊥ = omega (arith, found_pinned c (rw s tt) (found_mapped c s).0) in y in
          let busy : k.stage ≢ 0 = λ w. true≢false (sym s ∙ ap pins_found w) in
          let none_of = found_ungranted c busy (found_mapped c s).0 ((found_mapped c s).1 live) in
          omega (arith, one_not _ _ e, ap (grants_on p c) u, one_at_most (pins_found k.stage && eqb k.found f))

  -- so there is room for one more pin on the found frame, of which its finder has none yet
  pub one_more_pin : (c : ℕ) → c < number_of_clients p → (client p c).stage ≢ 0 → T (not (pins_found (client p c).stage)) → (client p c).found ≢ none
      → pins p (client p c).found ≢ evicted → mapped p (client p c).found ≡ suc (client p c).page
      → pins p (client p c).found < pinned (number_of_clients p)
  unfolding claimed
  one_more_pin c h s t z live its = go (r.pin_counts.balance f z)
    where
      k : Client
      k = client p c

      f : ℕ
      f = k.found

      other : k.own ≢ f
      other w = r.private.own_unfound c c (λ n. z (sym w ∙ n)) (sym w)

      mine : claims p c f ≡ 0
      mine = rw (T_false (pins_found k.stage) t) (omega (arith, one_not _ _ other, found_ungranted c s z its))

      all : claimed p f + 1 ≤ 1 * number_of_clients p
      all = sum_gap (λ d. claims p d f) (number_of_clients p) 1 c 1 h (λ d _. claims_at_most d f z) (omega (arith, mine))

      go : Balance p f (pins p f) (claimed p f) → pins p f < pinned (number_of_clients p)
      go (unclaimed x y) = absurd (live x)
      go (counted x) = omega (arith, all)
      go (orphan o) = absurd (o.unfound c refl)

  -- ---- victims

  -- a frame that stands in a slot and has no pins has an entry: it is no own frame, which is pinned, and no orphan, which has no slot
  pub unpinned_mapped : (f : ℕ) → f ≢ none → pins p f ≡ pinned 0 → InSlot p f → mapped p f ≢ 0
  unpinned_mapped f z e s = go (r.mapping.mapped_or_owned f z (λ n. omega arith))
    where
      go : (mapped p f ≢ 0) ⊎ (((d : ℕ) × ((client p d).own ≡ f)) ⊎ Orphan p f) → mapped p f ≢ 0
      go (inl n) = n
      go (inr (inl d)) = absurd (omega (arith, ap (pins p) d.1, own_pins d.0 (λ n. z (sym d.1 ∙ n))))
      go (inr (inr o)) = absurd (o.no_slot s.0 s.1)

  -- an entry that stage 17 does not find is gone
  pub lookup_unmapped : (v : ℕ) → v ≢ none → lookup p (page p v) ≢ v → mapped p v ≡ 0
  lookup_unmapped v z n =
      elim (ℕ_discrete (mapped p v) 0) [
        | yes e ↦ e
        | no w ↦
            let s = some_suc (mapped p v) w in
            absurd (n (ap (lookup p) (r.mapping.mapped_page v s.0 z s.1) ∙
            (mapped_lookup p r.shape r.mapping.pages_distinct v s.0 z s.1).1))
      ]

  -- an own frame that has no slot yet is no victim that a client examines
  pub own_not_victim : (c d : ℕ) → T (unplaced (client p c).stage) → (client p c).own ≢ none → T (examining (client p d).stage)
      → (client p d).victim ≢ (client p c).own
  own_not_victim c d u z h e = go (examining_cases (client p d).stage h)
    where
      two : pins p (client p d).victim ≡ pinned 1
      two = ap (pins p) e ∙ own_pins c z

      in_slot : (pins p (client p d).victim ≢ evicted → InSlot p (client p d).victim) → ⊥
      in_slot s = let w = s (λ x. let n : ⊥ = omega (arith, two) in n) in r.places.unplaced_no_slot c w.0 u z (w.1 ∙ e)

      go : ((client p d).stage ≡ 12) ⊎ (((client p d).stage ≡ 13) ⊎ (((client p d).stage ≡ 14) ⊎ ((client p d).stage ≡ 15))) → ⊥
      go (inl q) = in_slot (know p r d 12 q).1.1
      go (inr (inl q)) = in_slot (know p r d 13 q).1.1
      go (inr (inr (inl q))) = in_slot (know p r d 14 q).1.1
      go (inr (inr (inr q))) = omega (arith, (know p r d 15 q).1.1, two)

-- ---- empty slots

-- some slot is empty where the empty slots are not none
pub some_empty : (p : Pool) → sum_to (λ i. one (eqb (slot p i) none)) p.size ≢ 0 → (i : ℕ) × (i < p.size) × (slot p i ≡ none)
some_empty p z = let r = sum_some_test (λ i. eqb (slot p i) none) p.size z in (r.0, r.1, eqb-true _ none r.2)

-- there is one for a client that has claimed a slot and not filled it
pub filling_empty : (p : Pool) → Reached p → (c i : ℕ) → c < number_of_clients p → (client p c).stage ≡ i → T (filling i) → (j : ℕ) × (j < p.size) × (slot p j ≡ none)
filling_empty p r c i here e t =
    let f : one (filling (client p c).stage) ≡ 1 = ap (λ (x : ℕ). one (filling x)) e ∙ ap one (T_true (filling i) t) in
    some_empty p (λ z. let y : ⊥ = omega (arith, f, r.evictions.empties, sum_has (λ d. one (filling (client p d).stage)) (number_of_clients p) c here) in y)
