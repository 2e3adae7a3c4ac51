-- A frame is evicted and nobody claims it, or its pins are the number of claims on it, or it is an orphan: a move changes the claims of its own
-- client alone, and a frame's pins together with them. Assumes nothing.
use mathlib.Core.Path.{◌≡◌, refl, sym, ap, subst, ◌∙◌}
use mathlib.Core.Logic.{◌≢◌, ◌⊎◌, inl, inr}
use mathlib.Core.Bool.{Bool, true, false, not, ◌&&◌}
use Prim.Native.Nat.{ℕ, suc, ◌+◌, ◌-◌, ◌≤◌, ◌<◌}
use native.Mathlib.Omega.{arith}
use native.Mathlib.Decide.{ℕ_discrete}
use lib.Dec.{T, eqb}
use borrow.Author.Tests.{eq-eqb}
use Rattle.pool.specs.Limits.{max_held}
use Rattle.pool.specs.State.{none, evicted, pinned, number_of_clients, total, pins, client, grant_frame}
use Rattle.pool.specs.Frames.{referenced, free_frame}
use Rattle.pool.specs.Grants.{grant_of}
use Rattle.pool.specs.Moves.{refused15}
use Rattle.pool.specs.Apply.{slots_after, pins_after, entry_pages_after, entry_frames_after, apply}
use Rattle.pool.specs.declared.Pool.{Pool}
use Rattle.pool.specs.declared.Client.{Client}
use Rattle.pool.specs.declared.Move.{Move}
use Rattle.pool.specs.declared.GrantChange.TheVariants.{Same, Open}
use Rattle.invariant.proofs.Reached.{Reached, PinCounts, one, grants_on, claims, claimed, pins_found, unplaced, ownless, Orphan, Balance, unclaimed}
use Rattle.invariant.proofs.Reached.{counted, orphan}
use Rattle.invariant.proofs.After.{PinsStay, PinsPut, client_same, client_other, all_clients, slot_kept, pins_kept, pins_here, pins_else}
use Rattle.invariant.proofs.Sums.{one_is, one_not, sum_zero, sum_put, sum_has}
use Rattle.invariant.proofs.Searches.{Unreferenced, unreferenced_means, free_found, grant_of_found, grant_in}
use Rattle.invariant.proofs.Table.{mapped_kept}
use Rattle.invariant.proofs.Grants.{grants_on_none, grants_on_other, grants_on_keeps, grants_on_opens, grants_on_ends}
use Rattle.invariant.proofs.NeverFails.{mover}
use Rattle.invariant.proofs.Facts.{none_own, foreign_claims, orphan_claims, own_pins, grant_pinned}
use Rattle.invariant.proofs.StageTests.{T_false, never, differ, imp_mp}
use Rattle.invariant.proofs.Edges.{Edge, moves_on, found1, found18, forgets2, forgets22, pins2, pins19, gets3, gets21, takes, fills, replaces, refuses}
use Rattle.invariant.proofs.Edges.{evicts14, removes, admits, revives, evicts20, evicts23, begins, releases}
use Rattle.invariant.proofs.Effects.{no_open, counters_untouched, Effect, scene}
use Rattle.invariant.proofs.Next.{slot_now, all_grants}
use Rattle.invariant.proofs.Private.{PrivateFrame, private_unmapped, private_unfound, private_ungranted}

-- ---- what a move has to show of each frame: how its pins go from a to b and its client's claims from v to w

data Change (p q : Pool) (f a b v w : ℕ) : Type 0 where
  unchanged : b ≡ a → w ≡ v → Change p q f a b v w
  adjusted : (Orphan p f → ⊥) → a ≢ evicted → b ≢ evicted → b + v ≡ a + w → Change p q f a b v w
  evict : a ≢ evicted → b ≡ evicted → a + w ≡ suc v → Change p q f a b v w
  taken_now : claimed p f ≡ 0 → b ≡ pinned 1 → w ≡ 1 → Change p q f a b v w
  orphaned : Orphan q f → Change p q f a b v w

-- all claims go from s to t
balance_next : (p q : Pool) (f a b v w s t : ℕ) → claimed p f ≡ s → Balance p f a s → Change p q f a b v w → t + v ≡ s + w → v ≤ s
    → (Orphan p f → Orphan q f ⊎ ((s ≡ 0) × (1 ≤ w))) → Balance q f b t
balance_next p q f a b v w s t e h (orphaned o) n l j = orphan o
balance_next p q f a b v w s t e (unclaimed x y) (unchanged x₁ y₁) n l j = unclaimed (omega arith) (omega arith)
balance_next p q f a b v w s t e (unclaimed x y) (adjusted _ z _ _) n l j = absurd (z x)
balance_next p q f a b v w s t e (unclaimed x y) (evict z _ _) n l j = absurd (z x)
balance_next p q f a b v w s t e (unclaimed x y) (taken_now x₁ y₁ z) n l j = counted (omega arith)
balance_next p q f a b v w s t e (counted h) (unchanged x y) n l j = counted (omega arith)
balance_next p q f a b v w s t e (counted h) (adjusted _ x y z) n l j = counted (omega arith)
balance_next p q f a b v w s t e (counted h) (evict x y z) n l j = unclaimed y (omega arith)
balance_next p q f a b v w s t e (counted h) (taken_now x y z) n l j = counted (omega arith)
balance_next p q f a b v w s t e (orphan o) (unchanged x y) n l j = elim (j o) [ inl r ↦ orphan r | inr r ↦ counted (omega (arith, r)) ]
balance_next p q f a b v w s t e (orphan o) (adjusted u x y z) n l j = absurd (u o)
balance_next p q f a b v w s t e (orphan o) (evict x y z) n l j = elim (j o) [ inl r ↦ orphan r | inr r ↦ unclaimed y (omega (arith, r)) ]
balance_next p q f a b v w s t e (orphan o) (taken_now x y z) n l j = counted (omega arith)

module _ {p : Pool} {c : ℕ} {m : Move} (x : Effect p c m) where
  open scene x use {r, here, k, q}

  few : (d : ℕ) → (client p d).held ≤ max_held
  few = r.ranges.held_ok

  -- ---- the claims after a move

  -- what the next record claims besides grants
  abbrev besides : ℕ → ℕ
  besides f = one (pins_found m.next.stage && eqb m.next.found f) + one (eqb m.next.own f)

  claims_next : (f : ℕ) → claims q c f ≡ grants_on q c f + besides f
  claims_next f =
      omega (arith, ap (λ (n : Client). one (pins_found n.stage && eqb n.found f) + one (eqb n.own f)) (client_same p c m r.shape here))

  claims_other : (d f : ℕ) → d ≢ c → claims q d f ≡ claims p d f
  claims_other d f o =
      omega (
        arith,
        grants_on_other p c m r.shape here few x.grants d o f,
        ap (λ (n : Client). one (pins_found n.stage && eqb n.found f) + one (eqb n.own f)) (client_other p c m d o),
      )

  claimed_next : (f : ℕ) → claimed q f + claims p c f ≡ claimed p f + claims q c f
  unfolding claimed apply
  claimed_next f = sum_put (λ d. claims p d f) (λ d. claims q d f) (number_of_clients p) c here (λ d _ o. claims_other d f o)

  -- the grants stay, and what else is claimed
  claims_kept : m.grants ≡ Same → m.next.held ≡ k.held → (f : ℕ) → claims q c f ≡ grants_on p c f + besides f
  claims_kept g h f = omega (arith, claims_next f, grants_on_keeps p c m r.shape here few g h f)

  -- one more grant, and nothing else is claimed
  claims_open : (g y : ℕ) → m.grants ≡ Open k.held g y → m.next.held ≡ k.held + 1 → k.held < max_held → m.next.stage ≡ 0 → m.next.own ≡ none
      → (f : ℕ) → f ≢ none → claims q c f ≡ grants_on p c f + one (eqb y f)
  claims_open g y e h l s o f z =
      omega (
        arith,
        claims_next f,
        grants_on_opens p c m r.shape here few g y e h l f,
        ap (λ (n : ℕ). one (pins_found n && eqb m.next.found f)) s,
        ap (λ (n : ℕ). one (eqb n f)) o,
        none_own f z,
      )

  -- ---- orphans

  pub orphan_stays : (f : ℕ) → f ≢ none → Orphan p f → m.next.own ≢ f → Orphan q f
  orphan_stays f z o n =
      record {
        no_slot = λ i. elim (slot_now x i) [ inl e ↦ (λ w. o.no_slot i (sym e ∙ w)) | inr e ↦ (λ w. o.unowned c (sym e.0 ∙ w)) ];
        unmapped = private_unmapped x f z private_frame;
        unowned = all_clients p c m r.shape (λ _ n. n.own ≢ f) here (λ d _. o.unowned d) n;
        unfound = private_unfound x f z private_frame;
        ungranted = private_ungranted x f z private_frame;
      }
    where
      private_frame : PrivateFrame p c m.next f
      private_frame = record { unmapped = o.unmapped; unfound = o.unfound; ungranted = o.ungranted; not_forgotten = λ _. o.unowned c }

  orphan_next : (f : ℕ) → f ≢ none → Orphan p f → Orphan q f ⊎ ((claimed p f ≡ 0) × (1 ≤ claims q c f))
  orphan_next f z o = go (ℕ_discrete m.next.own f)
    where
      go : Dec (m.next.own ≡ f) → Orphan q f ⊎ ((claimed p f ≡ 0) × (1 ≤ claims q c f))
      go (yes e) = inr (orphan_claims p f o, omega (arith, claims_next f, ap one (eq-eqb m.next.own f e)))
      go (no e) = inl (orphan_stays f z o e)

  -- ---- the layer, from the changes

  abbrev NoOwn : Type 0
  NoOwn = T (ownless m.next.stage) → m.next.own ≡ none

  record PinCountsCondition : Type 0 where
    owns : NoOwn
    change : (f : ℕ) → f ≢ none → Change p q f (pins p f) (pins q f) (claims p c f) (claims q c f)

  pin_counts_of : PinCountsCondition → PinCounts q
  unfolding claimed
  pin_counts_of t =
      record {
        owns_none = all_clients p c m r.shape (λ _ n. T (ownless n.stage) → n.own ≡ none) here (λ d _. r.pin_counts.owns_none d) t.owns;
        balance = λ f z. balance_next p q f (pins p f) (pins q f) (claims p c f) (claims q c f) (claimed p f) (claimed q f) refl
            (r.pin_counts.balance f z) (t.change f z) (claimed_next f) (sum_has (λ d. claims p d f) (number_of_clients p) c here) (orphan_next f z);
      }

  -- no pins change, and no claims
  no_change : NoOwn → PinsStay p m.write → ((f : ℕ) → f ≢ none → claims q c f ≡ claims p c f) → PinCountsCondition
  no_change o w e = record { owns = o; change = λ f z. unchanged (pins_kept p c m w f) (e f z) }

  -- the pins of one frame change
  one_frame : (g y : ℕ) → NoOwn → PinsPut p m.write g y → g < total p
      → (g ≢ none → Change p q g (pins p g) y (claims p c g) (claims q c g)) → ((f : ℕ) → f ≢ none → f ≢ g → claims q c f ≡ claims p c f) → PinCountsCondition
  one_frame g y o w h ch e = record { owns = o; change = λ f z. go f z (ℕ_discrete f g) }
    where
      go : (f : ℕ) → f ≢ none → Dec (f ≡ g) → Change p q f (pins p f) (pins q f) (claims p c f) (claims q c f)
      go f z (no n) = unchanged (pins_else p c m g y w f n) (e f z n)
      go f z (yes n) =
          subst (λ (f : ℕ). Change p q f (pins p f) (pins q f) (claims p c f) (claims q c f)) (sym n)
          (subst (λ (b : ℕ). Change p q g (pins p g) b (claims p c g) (claims q c g)) (sym (pins_here p c m r.shape g y w h)) (ch (λ w. z (n ∙ w))))

-- ---- each kind of move

module _ (p : Pool) (c : ℕ) (r : Reached p) where
  open mover p r c use {me, known}

  -- what the client claims by its found frame, at stage i
  found_claim : (i f : ℕ) → (client p c).stage ≡ i → one (pins_found me.stage && eqb me.found f) ≡ one (pins_found i && eqb me.found f)
  found_claim i f e = ap (λ (s : ℕ). one (pins_found s && eqb me.found f)) e

  -- nothing by its own frame, where it has none
  no_own_claim : (f : ℕ) → f ≢ none → T (ownless me.stage) → one (eqb me.own f) ≡ 0
  no_own_claim f z t = ap (λ (o : ℕ). one (eqb o f)) (r.pin_counts.owns_none c t) ∙ none_own f z

  module _ {m : Move} (x : Effect p c m) where
    abbrev Condition : Type 0
    Condition = PinCountsCondition x

    -- the grants stay, no pins change, and the client claims what it did
    same_claims : NoOwn x → PinsStay p m.write → m.grants ≡ Same → m.next.held ≡ me.held
        → ((f : ℕ) → besides x f ≡ one (pins_found me.stage && eqb me.found f) + one (eqb me.own f)) → Condition
    same_claims o w g h e = no_change x o w (λ f _. omega (arith, claims_kept x g h f, e f))

    -- the found frame has one claim more, and one pin
    pins_found_lem : (i : ℕ) → (client p c).stage ≡ i → T (not (pins_found i)) → pins_found m.next.stage ≡ true → NoOwn x
        → PinsPut p m.write me.found (pins p me.found + 1) → m.grants ≡ Same → m.next.held ≡ me.held → m.next.found ≡ me.found
        → m.next.own ≡ me.own → me.found ≢ none → pins p me.found ≢ evicted → Condition
    pins_found_lem i e t u o w g h fo ow z l =
        one_frame x me.found _ o w (r.ranges.found_ok c z)
        (λ _. adjusted (λ n. n.unfound c refl) l (λ n. let y : ⊥ = omega arith in y) (omega (arith, more me.found, one_is me.found)))
        (λ f _ n. omega (arith, more f, one_not me.found f (λ w. n (sym w))))
      where
        more : (f : ℕ) → claims (apply p c m) c f ≡ claims p c f + one (eqb me.found f)
        more f =
            let a : one (pins_found me.stage && eqb me.found f) ≡ 0 = found_claim i f e ∙ rw (T_false (pins_found i) t) refl in
            let b : one (pins_found m.next.stage && eqb m.next.found f) ≡ one (eqb me.found f) = rw (u, fo) refl in
            omega (arith, claims_kept x g h f, ap (λ (o : ℕ). one (eqb o f)) ow)

    -- a claim becomes a grant: that of the found frame, or that of the own one
    claim_to_grant : (i y : ℕ) → me.stage ≡ i → T (not (eqb i 0)) → PinsStay p m.write → m.grants ≡ Open me.held me.page y
        → m.next.held ≡ me.held + 1 → m.next.stage ≡ 0 → m.next.own ≡ none
        → ((f : ℕ) → f ≢ none → one (pins_found me.stage && eqb me.found f) + one (eqb me.own f) ≡ one (eqb y f)) → Condition
    claim_to_grant i y st n w g h s o e =
        let few : me.held < max_held = omega (arith, r.ranges.working_held c (λ z. differ i 0 n (sym st ∙ z))) in
        no_change x (λ _. o) w (λ f z. omega (arith, claims_open x me.page y g h few s o f z, e f z))

    -- the own frame is evicted and forgotten
    evicts : (j : ℕ) → m.next.own ≡ none → PinsPut p m.write me.own evicted → m.grants ≡ Same → m.next.held ≡ me.held
        → pins_found m.next.stage ≡ pins_found me.stage → m.next.found ≡ me.found → me.own ≢ none → Condition
    evicts j o w g h s fo z =
        one_frame x me.own evicted (λ _. o) w (r.ranges.own_ok c z)
        (λ _. evict (λ n. let y : ⊥ = omega (arith, two) in y) refl (omega (arith, less me.own z, one_is me.own, two)))
        (λ f u n. omega (arith, less f u, one_not me.own f (λ w. n (sym w))))
      where
        two : pins p me.own ≡ pinned 1
        two = own_pins p r c z

        less : (f : ℕ) → f ≢ none → claims (apply p c m) c f + one (eqb me.own f) ≡ claims p c f
        less f u =
            let b : one (pins_found m.next.stage && eqb m.next.found f) ≡ one (pins_found me.stage && eqb me.found f) = rw (s, fo) refl in
            omega (arith, claims_kept x g h f, ap (λ (o : ℕ). one (eqb o f)) o, none_own f u)

  -- a refused client leaves its own frame behind, with its pins
  pub refused_orphan : Effect p c (refused15 me) → T (unplaced me.stage) → me.own ≢ none → Orphan (apply p c (refused15 me)) me.own
  unfolding slots_after entry_pages_after entry_frames_after
  refused_orphan x u z =
      let m : Move = refused15 me in
      record {
        no_slot = λ i w. r.places.unplaced_no_slot c i u z (sym (slot_kept p c m refl i) ∙ w);
        unmapped = mapped_kept p c m refl refl me.own ∙ r.private.own_unmapped c z;
        unowned = all_clients p c m r.shape (λ _ n. n.own ≢ me.own) x.here (λ d o w. o (sym (r.places.owns_distinct c d z (sym w)))) (λ w. z (sym w));
        unfound = all_clients p c m r.shape (λ _ n. n.found ≢ me.own) x.here (λ d _. r.private.own_unfound c d z) (λ w. z (sym w));
        ungranted = λ d i w. all_grants x (λ _ f. f ≢ me.own) (λ d i _. r.private.own_ungranted c d i z) (λ g f e. no_open e) d i
            (grant_in (apply p c m) d i (λ n. z (sym w ∙ n))) w;
      }

  pin_counts_condition : {m : Move} → Edge p c m → (x : Effect p c m) → PinCountsCondition x
  unfolding pins_after claimed
  pin_counts_condition (moves_on n j w h) x =
      same_claims x (λ t. h.same.own ∙ r.pin_counts.owns_none c (imp_mp (ownless j) (ownless me.stage) h.stages.from_ownless t))
      (counters_untouched _ _ h.counters_only).pins refl h.same.held
      (λ f. rw (h.stages.pins_alike, h.same.found, h.same.own) refl)
  pin_counts_condition (found1 e _) x = same_claims x (λ _. r.pin_counts.owns_none c (rw e tt)) refl refl refl (λ f. rw e refl)
  pin_counts_condition (found18 e _) x = same_claims x never refl refl refl (λ f. rw e refl)
  pin_counts_condition (forgets2 e _) x = same_claims x (λ _. r.pin_counts.owns_none c (rw e tt)) refl refl refl (λ f. rw e refl)
  pin_counts_condition (forgets22 e _) x = same_claims x never refl refl refl (λ f. rw e refl)
  pin_counts_condition (pins2 e l) x = pins_found_lem x 2 e tt refl (λ _. r.pin_counts.owns_none c (rw e tt)) refl refl refl refl refl (known 2 e).0 l
  pin_counts_condition (pins19 e l) x = pins_found_lem x 19 e tt refl never refl refl refl refl refl (known 19 e).1.0 l
  pin_counts_condition (gets3 e) x =
      claim_to_grant x 3 me.found e tt refl refl refl refl refl (λ f z. omega (arith, found_claim 3 f e, no_own_claim f z (rw e tt)))
  pin_counts_condition (gets21 e) x =
      claim_to_grant x 21 me.found e tt refl refl refl refl refl (λ f z. omega (arith, found_claim 21 f e, no_own_claim f z (rw e tt)))
  pin_counts_condition {m} (takes e z) x =
      one_frame x (free_frame p) (pinned 1) never refl free.0
      (λ _. taken_now (sum_zero (λ d. claims p d (free_frame p)) (number_of_clients p) (λ d _. none_of d)) refl
      (omega (arith, claims_kept x refl refl (free_frame p), grants_on_none p c (free_frame p) (fresh.no_grant c), one_is (free_frame p))))
      (λ f u n. omega (arith, claims_kept x refl refl f, one_not (free_frame p) f (λ w. n (sym w)), found_claim 4 f e, no_own_claim f u (rw e tt)))
    where
      free : (free_frame p < total p) × (referenced p (free_frame p) ≡ false)
      free = free_found p r.shape z

      fresh : Unreferenced p (free_frame p)
      fresh = unreferenced_means p (free_frame p) z free.1

      none_of : (d : ℕ) → claims p d (free_frame p) ≡ 0
      none_of d = foreign_claims p d (free_frame p) (fresh.no_found d) (fresh.no_grant d) ∙ one_not _ _ (fresh.no_own d)
  pin_counts_condition (fills e _) x = same_claims x never refl refl refl (λ f. rw e refl)
  pin_counts_condition (replaces e _) x = same_claims x never refl refl refl (λ f. rw e refl)
  pin_counts_condition {m} (refuses v _) x = record { owns = λ _. refl; change = λ f z. go f z (ℕ_discrete me.own f) }
    where
      go : (f : ℕ) → f ≢ none → Dec (me.own ≡ f) → Change p (apply p c m) f (pins p f) (pins (apply p c m) f) (claims p c f) (claims (apply p c m) c f)
      go f z (yes h) =
          subst (λ (f : ℕ). Change p (apply p c m) f (pins p f) (pins (apply p c m) f) (claims p c f) (claims (apply p c m) c f)) h
          (orphaned (refused_orphan x v.is_unplaced (λ w. z (sym h ∙ w))))
      go f z (no h) =
          unchanged (pins_kept p c m refl f)
          (omega (arith, claims_kept x refl refl f, none_own f z, one_not _ _ h, ap (λ (b : Bool). one (b && eqb me.found f)) v.no_pin))
  pin_counts_condition {m} (evicts14 e h) x =
      one_frame x me.victim evicted never refl (r.ranges.victim_ok c (known 14 e).1.0)
      (λ _. evict (λ n. let y : ⊥ = omega arith in y) refl (omega (arith, claims_kept x refl refl me.victim, found_claim 14 me.victim e)))
      (λ f _ _. omega (arith, claims_kept x refl refl f, found_claim 14 f e))
  pin_counts_condition (removes e _) x = same_claims x never refl refl refl (λ f. rw e refl)
  pin_counts_condition (admits e _ _) x = claim_to_grant x 18 me.own e tt refl refl refl refl refl (λ f _. omega (arith, found_claim 18 f e))
  pin_counts_condition (revives e _) x = claim_to_grant x 22 me.own e tt refl refl refl refl refl (λ f _. omega (arith, found_claim 22 f e))
  pin_counts_condition (evicts20 e) x = evicts x 21 refl refl refl refl (rw e refl) refl (known 20 e).0.0
  pin_counts_condition (evicts23 e) x = evicts x 4 refl refl refl refl (rw e refl) refl (known 23 e).0
  pin_counts_condition (begins g e _ _) x = same_claims x (λ _. r.pin_counts.owns_none c (rw e tt)) refl refl refl (λ f. rw e refl)
  pin_counts_condition {m} (releases g e z) x =
      one_frame x gf (pins p gf - 1) (λ t. r.pin_counts.owns_none c t) refl (r.ranges.grant_ok c i named)
      (λ _. adjusted (λ o. o.ungranted c i refl) (λ n. let y : ⊥ = omega (arith, two) in y) (λ n. let y : ⊥ = omega (arith, two) in y)
      (omega (arith, less gf, one_is gf, two)))
      (λ f _ n. omega (arith, less f, one_not gf f (λ w. n (sym w))))
    where
      i : ℕ
      i = grant_of p c g

      gf : ℕ
      gf = grant_frame p c i

      named : gf ≢ none
      named = r.mapping.grant_named c i (grant_of_found p c g z).0

      two : pinned 1 ≤ pins p gf
      two = grant_pinned p r c i named

      less : (f : ℕ) → claims (apply p c m) c f + one (eqb gf f) ≡ claims p c f
      less f =
          let h = grants_on_ends p c m r.shape x.here r.ranges.held_ok i refl refl (grant_of_found p c g z).0 f in
          omega (arith, claims_next x f)

  pub pin_counts_next : {m : Move} → Edge p c m → Effect p c m → PinCounts (apply p c m)
  pin_counts_next {m} e x = pin_counts_of x (pin_counts_condition e x)
