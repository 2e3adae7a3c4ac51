-- Empty slots are those that are free or claimed by a client that has not filled its slot yet: 6 takes one from free and claims one, and 8 fills one.
-- A victim that is examined stands in no slot but its client's place, as it was read there and no frame stands in two slots. An evicted frame that is
-- still in the table has a client that takes it out: the one that evicted it, until it has removed the entry. Assumes nothing.
use mathlib.Core.Path.{◌≡◌, refl, sym, ap, subst, ◌∙◌}
use mathlib.Core.Logic.{◌≢◌, ◌⊎◌, inl, inr}
use mathlib.Core.Bool.{not}
use Prim.Native.Nat.{ℕ, ◌+◌}
use native.Mathlib.Omega.{arith}
use native.Mathlib.Decide.{ℕ_discrete}
use lib.Dec.{T, eqb}
use Rattle.pool.specs.State.{none, evicted, number_of_clients, slot, page, pins, entry_frame, client}
use Rattle.pool.specs.Table.{entry_of}
use Rattle.pool.specs.Apply.{slots_after, free_after, apply}
use Rattle.pool.specs.declared.Pool.{Pool}
use Rattle.pool.specs.declared.Client.{Client}
use Rattle.pool.specs.declared.Move.{Move}
use Rattle.invariant.proofs.Reached.{Reached, Evictions, Knows, one, sum_to, mapped, unplaced, unmapping, filling, examining, WillUnmap}
use Rattle.invariant.proofs.After.{SlotsStay, SlotsPut, client_same, client_other, all_clients, slot_kept, slot_here, slot_else, pins_kept, pins_here}
use Rattle.invariant.proofs.After.{pins_else}
use Rattle.invariant.proofs.Sums.{one_not, sum_same, sum_put}
use Rattle.invariant.proofs.Searches.{lookup_found}
use Rattle.invariant.proofs.Table.{put_replaced}
use Rattle.invariant.proofs.NeverFails.{know, mover}
use Rattle.invariant.proofs.StageTests.{T_not, never, differ, unmaps_none, examining_unplaced}
use Rattle.invariant.proofs.Steps.{not_unmapping}
use Rattle.invariant.proofs.Facts.{own_not_evicted, own_not_victim}
use Rattle.invariant.proofs.Edges.{Examines, Edge, moves_on, found1, found18, forgets2, forgets22, pins2, pins19, gets3, gets21, takes, fills, replaces}
use Rattle.invariant.proofs.Edges.{refuses, evicts14, removes, admits, revives, evicts20, evicts23, begins, releases}
use Rattle.invariant.proofs.Effects.{PinChange, adds, lowers, evicts_victim, own_evicted, takes_one, PinsOk, pins_stay, pins_put, counters_untouched}
use Rattle.invariant.proofs.Effects.{Effect, scene}
use Rattle.invariant.proofs.Next.{SlotNow, Replaced, slot_now, slot_or_replaced}
use Rattle.invariant.proofs.Mapping.{new_entry}

-- how many slots are empty
abbrev empty_count : Pool → ℕ
empty_count p = sum_to (λ i. one (eqb (slot p i) none)) p.size

-- ---- what a move has to show

record EvictionsCondition (p : Pool) (c : ℕ) (m : Move) : Type 0 where
  empties : empty_count (apply p c m) + p.free + one (filling (client p c).stage)
      ≡ empty_count p + free_after p.free m.write + one (filling m.next.stage)
  six_seen : m.next.stage ≡ 6 → m.next.seen ≢ 0
  examines : T (examining m.next.stage) → Examines p (client p c) m.next
  will_unmap : (f : ℕ) → f ≢ none → mapped p f ≢ 0 → mapped (apply p c m) f ≢ 0 → WillUnmap p (client p c) f → WillUnmap (apply p c m) m.next f

-- ---- a move that shows it keeps the layer

module _ {p : Pool} {c : ℕ} {m : Move} (x : Effect p c m) (s : EvictionsCondition p c m) where
  open scene x use {r, here, k, q}

  at_c : client q c ≡ m.next
  at_c = client_same p c m r.shape here

  empties_next : empty_count q ≡ free_after p.free m.write + sum_to (λ d. one (filling (client q d).stage)) (number_of_clients p)
  empties_next =
      let n = sum_put (λ d. one (filling (client p d).stage)) (λ d. one (filling (client q d).stage)) (number_of_clients p) c here
      (λ d _ o. ap (λ (n : Client). one (filling n.stage)) (client_other p c m d o)) in
      omega (arith, r.evictions.empties, s.empties, n, ap (λ (n : Client). one (filling n.stage)) at_c)

  victim_place_next : (d i : ℕ) → T (examining (client q d).stage) → (client q d).victim ≢ none → slot q i ≡ (client q d).victim → i ≡ (client q d).place
  victim_place_next d i =
      all_clients p c m r.shape (λ _ n. T (examining n.stage) → n.victim ≢ none → slot q i ≡ n.victim → i ≡ n.place) here others
      (mine (slot_now x i)) d
    where
      others : (d : ℕ) → d ≢ c → T (examining (client p d).stage) → (client p d).victim ≢ none → slot q i ≡ (client p d).victim → i ≡ (client p d).place
      others d _ t z h = go (slot_now x i)
        where
          go : SlotNow x i → i ≡ (client p d).place
          go (inl e) = r.evictions.victim_place d i t z (sym e ∙ h)
          go (inr e) = absurd (own_not_victim p r c d e.1 e.3 t (sym h ∙ e.0))

      mine : SlotNow x i → T (examining m.next.stage) → m.next.victim ≢ none → slot q i ≡ m.next.victim → i ≡ m.next.place
      mine (inr e) t z h = absurd (T_not (unplaced m.next.stage) e.2 (examining_unplaced m.next.stage t))
      mine (inl e) t z h = go (s.examines t)
        where
          go : Examines p k m.next → i ≡ m.next.place
          go (inl w) = r.evictions.victim_place c i w.2 (λ n. z (w.0 ∙ n)) (sym e ∙ h ∙ w.0) ∙ sym w.1
          go (inr w) = r.places.slots_distinct i m.next.place (λ n. z (sym h ∙ e ∙ n)) (sym e ∙ h ∙ w)

  -- a frame that is evicted now, and was mapped to: it was evicted, or the mover will remove its entry
  module _ (f : ℕ) (z : f ≢ none) (n : mapped p f ≢ 0) (d : pins q f ≡ evicted) where
    evicted_now : (pins p f ≡ evicted) ⊎ WillUnmap q m.next f
    evicted_now = go x.pins
      where
        go : PinsOk p c m → (pins p f ≡ evicted) ⊎ WillUnmap q m.next f
        go (pins_stay e) = inl (sym (pins_kept p c m e f) ∙ d)
        go (pins_put g y e h ch) = by (ℕ_discrete f g) ch
          where
            now : f ≡ g → y ≡ evicted
            now w = sym (pins_here p c m r.shape g y e h) ∙ ap (pins q) (sym w) ∙ d

            by : Dec (f ≡ g) → PinChange p c m g y → (pins p f ≡ evicted) ⊎ WillUnmap q m.next f
            by (no w) _ = inl (sym (pins_else p c m g y e f w) ∙ d)
            by (yes w) (adds _ v _) = absurd (let u = now w in let y : ⊥ = omega arith in y)
            by (yes w) (lowers l v) = absurd (let u = now w in let y : ⊥ = omega arith in y)
            by (yes w) (takes_one _ v) = absurd (let u = now w in let y : ⊥ = omega arith in y)
            by (yes w) (own_evicted v _) = absurd (n (ap (mapped p) (w ∙ v) ∙ r.private.own_unmapped c (λ u. z (w ∙ v ∙ u))))
            by (yes w) (evicts_victim v one_pin _ a st vi pl) = inr (vi ∙ sym (w ∙ v), inr (st, out (slot_or_replaced x f k.place z stands)))
              where
                known : Knows 14 p k
                known = know p r c 14 a

                in_slot : (i : ℕ) × (slot p i ≡ k.victim)
                in_slot = known.1.1 (λ u. let e : pins p g ≡ evicted = ap (pins p) v ∙ u in let y : ⊥ = omega arith in y)

                stands : slot p k.place ≡ f
                stands = ap (slot p) (sym (r.evictions.victim_place c in_slot.0 (rw a tt) known.1.0 in_slot.1)) ∙ in_slot.1 ∙ sym (w ∙ v)

                out : (slot q k.place ≡ f) ⊎ Replaced x f → slot q m.next.place ≡ f
                out (inl u) = ap (slot q) pl ∙ u
                out (inr u) = absurd (let e : pins p g ≡ evicted = ap (pins p) (sym w) ∙ u.0 in let y : ⊥ = omega arith in y)

    some_unmaps : mapped q f ≢ 0 → (pins p f ≡ evicted) ⊎ WillUnmap q m.next f → (d : ℕ) × WillUnmap q (client q d) f
    some_unmaps n' (inr h) = (c, rw at_c h)
    some_unmaps n' (inl h) = who (r.evictions.evicted_mapped f z n h)
      where
        who : (d : ℕ) × WillUnmap p (client p d) f → (d : ℕ) × WillUnmap q (client q d) f
        who w = by (ℕ_discrete w.0 c)
          where
            still : client q w.0 ≡ client p w.0
                → T (unmapping (client p w.0).stage) ⊎ (((client p w.0).stage ≡ 15) × (slot p (client p w.0).place ≡ f))
                → (d : ℕ) × WillUnmap q (client q d) f
            still e (inl l) = (w.0, rw e (w.1.0, inl l))
            still e (inr l) = go (slot_or_replaced x f (client p w.0).place z l.1)
              where
                go : (slot q (client p w.0).place ≡ f) ⊎ Replaced x f → (d : ℕ) × WillUnmap q (client q d) f
                go (inl u) = (w.0, rw e (w.1.0, inr (l.0, u)))
                go (inr u) = (c, rw at_c (u.2, inl u.1))

            by : Dec (w.0 ≡ c) → (d : ℕ) × WillUnmap q (client q d) f
            by (no o) = still (client_other p c m w.0 o) w.1.1
            by (yes o) = (c, rw at_c (s.will_unmap f z n n' (subst (λ (d : ℕ). WillUnmap p (client p d) f) o w.1)))

  evicted_mapped_next : (f : ℕ) → f ≢ none → mapped q f ≢ 0 → pins q f ≡ evicted → (d : ℕ) × WillUnmap q (client q d) f
  evicted_mapped_next f z n d = go (ℕ_discrete (mapped p f) 0)
    where
      go : Dec (mapped p f ≡ 0) → (d : ℕ) × WillUnmap q (client q d) f
      go (no e) = some_unmaps f z e d n (evicted_now f z e d)
      go (yes e) =
          let w = new_entry x f z e n in
          absurd (own_not_evicted p r c (λ y. z (w.0 ∙ y)) (ap (pins p) (sym w.0) ∙ sym w.3 ∙ d))

  evictions_of : Evictions q
  unfolding apply
  evictions_of =
      record {
        empties = empties_next;
        six_seen = all_clients p c m r.shape (λ _ n. n.stage ≡ 6 → n.seen ≢ 0) here (λ d _. r.evictions.six_seen d) s.six_seen;
        victim_place = victim_place_next;
        evicted_mapped = evicted_mapped_next;
      }

-- ---- each kind of move

module _ (p : Pool) (c : ℕ) (r : Reached p) where
  open mover p r c use {me, known}

  -- the slots and free stay
  same_empty : (m : Move) → SlotsStay p m.write → empty_count (apply p c m) ≡ empty_count p
  unfolding apply
  same_empty m e = sum_same _ _ p.size (λ i _. ap (λ (f : ℕ). one (eqb f none)) (slot_kept p c m e i))

  slots_unchanged : {m : Move} (i : ℕ) → (client p c).stage ≡ i → SlotsStay p m.write → free_after p.free m.write ≡ p.free
      → filling i ≡ filling m.next.stage → T (not (eqb m.next.stage 6)) → (T (examining m.next.stage) → Examines p me m.next)
      → ((f : ℕ) → f ≢ none → mapped p f ≢ 0 → mapped (apply p c m) f ≢ 0 → WillUnmap p me f → WillUnmap (apply p c m) m.next f) → EvictionsCondition p c m
  slots_unchanged {m} i e sl fr fi no_six hu lv =
      record {
        empties = rw (e, fr, fi) (omega (arith, same_empty m sl));
        six_seen = λ w. absurd (differ m.next.stage 6 no_six w);
        examines = hu;
        will_unmap = lv;
      }

  -- and no victim is examined and no entry is to be removed
  unexamined : {m : Move} (i : ℕ) → (client p c).stage ≡ i → SlotsStay p m.write → free_after p.free m.write ≡ p.free
      → filling i ≡ filling m.next.stage → T (not (eqb m.next.stage 6)) → T (not (examining m.next.stage)) → T (unmaps_none i)
      → EvictionsCondition p c m
  unexamined {m} i e sl fr fi no_six hu lv =
      slots_unchanged i e sl fr fi no_six (λ t. absurd (T_not (examining m.next.stage) hu t)) (λ f _ _ _ w. absurd (not_unmapping p me i e lv f w))

  -- the own frame is put into the slot at the client's place: what stood there counted b as empty
  placing : (m : Move) (b : ℕ) → SlotsPut p m.write me.place me.own → me.own ≢ none → one (eqb (slot p me.place) none) ≡ b
      → empty_count (apply p c m) + b ≡ empty_count p
  unfolding apply
  placing m b e z w =
      let h : slot (apply p c m) me.place ≡ me.own = slot_here p c m r.shape me.place me.own e (r.ranges.place_ok c) in
      let n : one (eqb (slot (apply p c m) me.place) none) ≡ 0 = ap (λ (f : ℕ). one (eqb f none)) h ∙ one_not _ _ z in
      omega (
        arith,
        sum_put (λ i. one (eqb (slot p i) none)) (λ i. one (eqb (slot (apply p c m) i) none)) p.size me.place (r.ranges.place_ok c)
            (λ i _ o. ap (λ (f : ℕ). one (eqb f none)) (slot_else p c m me.place me.own e i o)),
      )

  evictions_condition : {m : Move} → Edge p c m → Effect p c m → EvictionsCondition p c m
  unfolding slots_after free_after
  evictions_condition {m} (moves_on n j w h) x =
      record {
        empties = let f = h.fills in omega (arith, same_empty m (counters_untouched _ _ h.counters_only).slots);
        six_seen = h.six_seen;
        examines = h.examines;
        will_unmap = λ f z a _ l. shifted (h.will_unmap f z a l);
      }
    where
      at : (i : ℕ) → slot (apply p c m) i ≡ slot p i
      at = slot_kept p c m (counters_untouched _ _ h.counters_only).slots

      shifted : {f : ℕ} → WillUnmap p m.next f → WillUnmap (apply p c m) m.next f
      shifted (v, inl l) = (v, inl l)
      shifted (v, inr l) = (v, inr (l.0, at n.place ∙ l.1))
  evictions_condition (found1 e _) x = unexamined 1 e refl refl refl tt tt tt
  evictions_condition (found18 e _) x = unexamined 18 e refl refl refl tt tt tt
  evictions_condition (forgets2 e _) x = unexamined 2 e refl refl refl tt tt tt
  evictions_condition (forgets22 e _) x = unexamined 22 e refl refl refl tt tt tt
  evictions_condition (pins2 e _) x = unexamined 2 e refl refl refl tt tt tt
  evictions_condition (pins19 e _) x = unexamined 19 e refl refl refl tt tt tt
  evictions_condition (gets3 e) x = unexamined 3 e refl refl refl tt tt tt
  evictions_condition (gets21 e) x = unexamined 21 e refl refl refl tt tt tt
  evictions_condition (takes e _) x = unexamined 4 e refl refl refl tt tt tt
  evictions_condition {m} (fills e h) x =
      record {
        empties = rw e (omega (arith, placing m 1 refl (known 8 e) (ap (λ (f : ℕ). one (eqb f none)) h)));
        six_seen = λ w. absurd (differ 9 6 tt w);
        examines = never;
        will_unmap = λ f _ _ _ w. absurd (not_unmapping p me 8 e tt f w);
      }
  evictions_condition {m} (replaces e h) x =
      let z : slot p me.place ≢ none = λ w. (known 15 e).1.0 (sym h ∙ w) in
      record {
        empties = rw e (omega (arith, placing m 0 refl (known 15 e).0 (one_not _ _ z)));
        six_seen = λ w. absurd (differ 16 6 tt w);
        examines = never;
        will_unmap = λ f _ _ _ w. (w.0, inl tt);
      }
  evictions_condition (refuses v _) x = unexamined me.stage refl refl refl v.no_fill tt tt v.no_unmap
  evictions_condition (evicts14 e _) x =
      slots_unchanged 14 e refl refl refl tt (λ _. inl (refl, refl, rw e tt)) (λ f _ _ _ w. absurd (not_unmapping p me 14 e tt f w))
  evictions_condition {m} (removes e h) x =
      slots_unchanged 17 e refl refl refl tt never (λ f _ _ n w. absurd (n (ap (mapped (apply p c m)) (sym w.0) ∙ gone)))
    where
      z : me.victim ≢ none
      z = (known 17 e).1.0

      g : ℕ
      g = page p me.victim

      i : ℕ
      i = entry_of p g

      there : entry_frame p i ≡ me.victim
      there = (lookup_found p r.shape g (λ w. z (sym h ∙ w))).entry_frame ∙ h

      gone : mapped (apply p c m) me.victim ≡ 0
      gone =
          ap (mapped (apply p c m)) (sym there) ∙
          put_replaced p c m r.shape i g none refl (lookup_found p r.shape g (λ w. z (sym h ∙ w))).inside r.mapping.entries_distinct
          (λ w. absurd (w refl)) (λ w. z (sym there ∙ w)) (λ w. z (sym there ∙ w))
  evictions_condition (admits e _ _) x = unexamined 18 e refl refl refl tt tt tt
  evictions_condition (revives e _) x = unexamined 22 e refl refl refl tt tt tt
  evictions_condition (evicts20 e) x = unexamined 20 e refl refl refl tt tt tt
  evictions_condition (evicts23 e) x = unexamined 23 e refl refl refl tt tt tt
  evictions_condition (begins g e _ _) x = unexamined 0 e refl refl refl tt tt tt
  evictions_condition (releases g e _) x = unexamined 0 e refl refl (rw e refl) (rw e tt) (rw e tt) tt

  pub evictions_next : {m : Move} → Edge p c m → Effect p c m → Evictions (apply p c m)
  evictions_next {m} e x = evictions_of x (evictions_condition e x)
