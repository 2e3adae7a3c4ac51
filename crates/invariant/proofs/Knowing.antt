-- What a client knows at its stage it keeps whatever the others do: a frame that somebody names stays evicted if it is, and keeps its entry and
-- its slot if it is not. And each move gives its client what is known at the stage it goes to. Assumes nothing.
use mathlib.Core.Path.{◌≡◌, refl, sym, ap, subst, ◌∙◌}
use mathlib.Core.Logic.{◌≢◌}
use mathlib.Core.Bool.{false}
use Prim.Native.Nat.{ℕ, suc}
use Rattle.pool.specs.State.{none, evicted, slot, pins, client}
use Rattle.pool.specs.Table.{lookup}
use Rattle.pool.specs.Frames.{referenced}
use Rattle.pool.specs.Apply.{slots_after, pins_after, entry_pages_after, entry_frames_after, apply}
use Rattle.pool.specs.declared.Pool.{Pool}
use Rattle.pool.specs.declared.Client.{Client}
use Rattle.pool.specs.declared.Move.{Move}
use Rattle.invariant.proofs.Reached.{Reached, mapped, InSlot, Know, Owns, Placed, FoundMapped, FoundEvicted, VictimInSlot, VictimEvicted, Nothing, ◌and◌}
use Rattle.invariant.proofs.Reached.{knows, Knows}
use Rattle.invariant.proofs.After.{EntryPagesStay, EntryFramesStay, slot_kept, slot_here, pins_kept, pins_here}
use Rattle.laws.specs.Each.{Each, fin, ◌also◌, each_at}
use Rattle.invariant.proofs.Table.{mapped_kept, lookup_mapped}
use Rattle.invariant.proofs.NeverFails.{know, mover}
use Rattle.invariant.proofs.Facts.{own_not_evicted}
use Rattle.invariant.proofs.Edges.{CountersOnly, Edge, moves_on, found1, found18, forgets2, forgets22, pins2, pins19, gets3, gets21, takes, fills}
use Rattle.invariant.proofs.Edges.{replaces, refuses, evicts14, removes, admits, revives, evicts20, evicts23, begins, releases}
use Rattle.invariant.proofs.Effects.{counters_untouched, Effect, scene}
use Rattle.invariant.proofs.Next.{evicted_next, in_slot_next, mapped_next, own_referenced, found_referenced, victim_referenced}

-- ---- what a pool q keeps of a frame of p

pub record FrameStable (p q : Pool) (f : ℕ) : Type 0 where
  pub stays_evicted : pins p f ≡ evicted → pins q f ≡ evicted
  pub stays_mapped : pins p f ≢ evicted → (g : ℕ) → mapped p f ≡ suc g → mapped q f ≡ suc g
  pub stays_in_slot : pins p f ≢ evicted → InSlot p f → InSlot q f

module _ (p q : Pool) where
  -- all that the knowledge of a client rests on
  pub record FramesStable (n : Client) : Type 0 where
    pub own : n.own ≢ none → FrameStable p q n.own
    pub own_not_evicted : n.own ≢ none → pins p n.own ≢ evicted
    pub found : n.found ≢ none → FrameStable p q n.found
    pub victim : n.victim ≢ none → FrameStable p q n.victim

  abbrev Stable : Know → Type 0
  Stable x = (n : Client) → FramesStable n → x p n → x q n

  stable_nothing : Stable Nothing
  stable_nothing n s h = tt

  stable_owns : Stable Owns
  stable_owns n s h = h

  stable_placed : Stable Placed
  stable_placed n s h = (h.0, (s.own h.0).stays_in_slot (s.own_not_evicted h.0) h.1)

  stable_found_mapped : Stable FoundMapped
  stable_found_mapped n s h =
      (h.0, λ z. let l : pins p n.found ≢ evicted = λ e. z ((s.found h.0).stays_evicted e) in (s.found h.0).stays_mapped l n.page (h.1 l))

  stable_found_evicted : Stable FoundEvicted
  stable_found_evicted n s h = (h.0, (s.found h.0).stays_evicted h.1)

  stable_victim_in_slot : Stable VictimInSlot
  stable_victim_in_slot n s h =
      (h.0, λ z. let l : pins p n.victim ≢ evicted = λ e. z ((s.victim h.0).stays_evicted e) in (s.victim h.0).stays_in_slot l (h.1 l))

  stable_victim_evicted : Stable VictimEvicted
  stable_victim_evicted n s h = (h.0, (s.victim h.0).stays_evicted h.1)

  stable_both : (x y : Know) → Stable x → Stable y → Stable (x and y)
  stable_both x y f g n s h = (f n s h.0, g n s h.1)

  stable_knows : Each (λ _ x. Stable x) 0 knows
  stable_knows =
      stable_nothing also stable_nothing also stable_found_mapped also stable_found_mapped also stable_nothing also stable_owns also stable_owns also
      stable_owns also stable_owns also stable_placed also stable_owns also stable_owns also
      stable_both Owns VictimInSlot stable_owns stable_victim_in_slot also stable_both Owns VictimInSlot stable_owns stable_victim_in_slot also
      stable_both Owns VictimInSlot stable_owns stable_victim_in_slot also stable_both Owns VictimEvicted stable_owns stable_victim_evicted also
      stable_both Placed VictimEvicted stable_placed stable_victim_evicted also
      stable_both Placed VictimEvicted stable_placed stable_victim_evicted also stable_placed also
      stable_both Placed FoundMapped stable_placed stable_found_mapped also stable_both Placed FoundMapped stable_placed stable_found_mapped also
      stable_found_mapped also stable_both Placed FoundEvicted stable_placed stable_found_evicted also stable_placed also fin

  stable : (s : ℕ) → Stable (Knows s)
  stable s = each_at (λ _ x. Stable x) Nothing (λ _. stable_nothing) knows stable_knows s

-- ---- after a move

module _ {p : Pool} {c : ℕ} {m : Move} (x : Effect p c m) where
  open scene x use {r, q}

  frame_stable : (f : ℕ) → f ≢ none → (referenced p f ≡ false → ⊥) → FrameStable p q f
  frame_stable f z n = record { stays_evicted = evicted_next x f z n; stays_mapped = mapped_next x f z; stays_in_slot = in_slot_next x f z }

  frames_stable : (d : ℕ) → FramesStable p q (client p d)
  frames_stable d =
      record {
        own = λ z. frame_stable (client p d).own z (own_referenced x (client p d).own z d refl);
        own_not_evicted = own_not_evicted p r d;
        found = λ z. frame_stable (client p d).found z (found_referenced x (client p d).found z d refl);
        victim = λ z. frame_stable (client p d).victim z (victim_referenced x (client p d).victim z d refl);
      }

  -- each client still knows what it knew, the mover included
  pub knows_next : (d i : ℕ) → (client p d).stage ≡ i → Knows i q (client p d)
  knows_next d i e = stable p q i (client p d) (frames_stable d) (know p r d i e)

-- ---- each kind of move

-- a write of counters alone leaves every frame stable
module _ (p : Pool) (c : ℕ) (r : Reached p) (m : Move) (w : CountersOnly p m.write) where
  counters_stable : (f : ℕ) → FrameStable p (apply p c m) f
  counters_stable f =
      let a : (f : ℕ) → pins (apply p c m) f ≡ pins p f = pins_kept p c m (counters_untouched _ _ w).pins in
      let b : mapped (apply p c m) f ≡ mapped p f = mapped_kept p c m (counters_untouched _ _ w).entry_pages (counters_untouched _ _ w).entry_frames f in
      let d : (i : ℕ) → slot (apply p c m) i ≡ slot p i = slot_kept p c m (counters_untouched _ _ w).slots in
      record { stays_evicted = λ e. a f ∙ e; stays_mapped = λ _ g e. b ∙ e; stays_in_slot = λ _ s. (s.0, d s.0 ∙ s.1) }

module _ (p : Pool) (c : ℕ) (r : Reached p) where
  open mover p r c use {me as k, known}

  -- the frame that a look-up found is the page's
  looked_up : (m : Move) → EntryPagesStay p m.write → EntryFramesStay p m.write → (z : lookup p k.page ≢ none)
      → (lookup p k.page ≢ none) × (pins (apply p c m) (lookup p k.page) ≢ evicted → mapped (apply p c m) (lookup p k.page) ≡ suc k.page)
  looked_up m a b z = (z, λ _. mapped_kept p c m a b _ ∙ lookup_mapped p r.shape r.mapping.entries_distinct k.page z)

  -- the found frame, not evicted, is still the page's
  pinned_now : (m : Move) → Effect p c m → FoundMapped p k → pins p k.found ≢ evicted → FoundMapped (apply p c m) k
  pinned_now m x h l = (h.0, λ _. mapped_next x k.found h.0 l k.page (h.1 l))

  pub learns : {m : Move} → Edge p c m → Effect p c m → Knows m.next.stage (apply p c m) m.next
  unfolding slots_after pins_after entry_pages_after entry_frames_after
  learns {m} (moves_on n j w h) x =
      stable p (apply p c m) j m.next
      (record {
        own = λ _. counters_stable p c r m h.counters_only n.own;
        own_not_evicted = λ z e. own_not_evicted p r c (λ y. z (h.same.own ∙ y)) (ap (pins p) (sym h.same.own) ∙ e);
        found = λ _. counters_stable p c r m h.counters_only n.found;
        victim = λ _. counters_stable p c r m h.counters_only n.victim;
      })
      h.knows
  learns {m} (found1 e z) x = looked_up m refl refl z
  learns {m} (found18 e z) x = (knows_next x c 18 e, looked_up m refl refl z)
  learns (forgets2 e _) x = tt
  learns {m} (forgets22 e _) x = (knows_next x c 22 e).0
  learns {m} (pins2 e l) x = pinned_now m x (known 2 e) l
  learns {m} (pins19 e l) x = ((knows_next x c 19 e).0, pinned_now m x (known 19 e).1 l)
  learns (gets3 e) x = tt
  learns (gets21 e) x = tt
  learns (takes e z) x = z
  learns {m} (fills e _) x = (known 8 e, (k.place, slot_here p c m r.shape k.place k.own refl (r.ranges.place_ok c)))
  learns {m} (replaces e _) x =
      (((known 15 e).0, (k.place, slot_here p c m r.shape k.place k.own refl (r.ranges.place_ok c))), (knows_next x c 15 e).1)
  learns (refuses _ _) x = tt
  learns {m} (evicts14 e _) x = let h = known 14 e in (h.0, (h.1.0, pins_here p c m r.shape k.victim evicted refl (r.ranges.victim_ok c h.1.0)))
  learns {m} (removes e _) x = (knows_next x c 17 e).0
  learns (admits e _ _) x = tt
  learns (revives e _) x = tt
  learns {m} (evicts20 e) x = (knows_next x c 20 e).1
  learns (evicts23 e) x = tt
  learns (begins g e _ _) x = tt
  learns {m} (releases g e z) x = subst (λ s. Knows s (apply p c m) m.next) (sym e) tt
