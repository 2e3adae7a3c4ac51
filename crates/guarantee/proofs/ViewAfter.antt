-- What each write leaves of the view of a pool. A slot of the view shows the page of a frame that stands in the pool's slot, is not evicted and has an
-- entry: so a write changes the view only where it evicts such a frame or gives an entry to a frame in a slot, and then at that slot alone. Assumes
-- nothing.
use mathlib.Core.Path.{◌≡◌, refl, sym, ap, ◌∙◌}
use mathlib.Core.Logic.{◌≢◌, ◌⊎◌, inl, inr}
use Prim.Native.Nat.{ℕ, ◌<◌}
use native.Mathlib.Decide.{ℕ_discrete}
use lib.Dec.{T, eqb}
use Rattle.pool.specs.State.{none, evicted, total, slot, pins, entry_frame}
use Rattle.pool.specs.Apply.{slots_after, pins_after, entry_pages_after, entry_frames_after, apply}
use Rattle.pool.specs.declared.Pool.{Pool}
use Rattle.pool.specs.declared.Move.{Move}
use Rattle.pool.specs.declared.Write.TheVariants.{PutSlot, PutPins, TakeFrame, PutEntry}
use Rattle.invariant.proofs.Reached.{Reached, mapped}
use Rattle.invariant.proofs.After.{slot_kept, slot_here, slot_else, slot_in, pins_kept, pins_here, pins_else}
use Rattle.invariant.proofs.Writes.{counters_only, untouched}
use Rattle.invariant.proofs.Table.{mapped_none, mapped_kept, put_other, put_new}
use Rattle.invariant.proofs.Searches.{none_evicted}
use Rattle.guarantee.specs.Sequential.{SeqSlot, empty, stores}
use Rattle.guarantee.proofs.SimulationRelation.{view_frame, view_evicted, view_unmapped, view_mapped, view_same}

-- every slot is viewed as it was
abbrev pub SameView : Pool → ℕ → Move → Type 0
SameView p c m = (i : ℕ) → view_frame (apply p c m) (slot (apply p c m) i) ≡ view_frame p (slot p i)

-- slot j is viewed as x now, and every other slot as it was
pub record ViewChanged (p : Pool) (c : ℕ) (m : Move) (j : ℕ) (x : SeqSlot) : Type 0 where
  pub inside : j < p.size
  pub there : view_frame (apply p c m) (slot (apply p c m) j) ≡ x
  pub others : (i : ℕ) → i ≢ j → view_frame (apply p c m) (slot (apply p c m) i) ≡ view_frame p (slot p i)

module _ (p : Pool) (c : ℕ) (m : Move) (r : Reached p) where
  abbrev q : Pool
  q = apply p c m

  view_kept : pins_after (total p) p.pins m.write ≡ p.pins → ((f : ℕ) → mapped q f ≡ mapped p f) → (f : ℕ) → view_frame q f ≡ view_frame p f
  view_kept a b f = view_same p q f (ap (λ (x : ℕ). eqb x evicted) (pins_kept p c m a f)) (b f)

  -- a write that touches neither slots nor pins nor table
  pub counters_view : T (counters_only m.write) → SameView p c m
  counters_view t i =
      ap (view_frame q) (slot_kept p c m (untouched _ _ m.write t).slots i)
      ∙ view_kept (untouched _ _ m.write t).pins
      (mapped_kept p c m (untouched _ _ m.write t).entry_pages (untouched _ _ m.write t).entry_frames) (slot p i)

  -- a frame's pins change
  module _ (f x : ℕ) (e : m.write ≡ PutPins f x) where
    pins_slot : (i : ℕ) → slot q i ≡ slot p i
    unfolding slots_after
    pins_slot = slot_kept p c m (rw e refl)

    pins_mapped : (h : ℕ) → mapped q h ≡ mapped p h
    unfolding entry_pages_after entry_frames_after
    pins_mapped = mapped_kept p c m (rw e refl) (rw e refl)

    pins_other : (h : ℕ) → h ≢ f → view_frame q h ≡ view_frame p h
    unfolding pins_after
    pins_other h z = view_same p q h (ap (λ (y : ℕ). eqb y evicted) (pins_else p c m f x (rw e refl) h z)) (pins_mapped h)

    -- it is evicted as before, or in no entry
    pub pins_view : f < total p → (eqb x evicted ≡ eqb (pins p f) evicted) ⊎ (mapped p f ≡ 0) → SameView p c m
    unfolding pins_after
    pins_view low h i = ap (view_frame q) (pins_slot i) ∙ at (slot p i) (ℕ_discrete (slot p i) f) h
      where
        at : (s : ℕ) → Dec (s ≡ f) → (eqb x evicted ≡ eqb (pins p f) evicted) ⊎ (mapped p f ≡ 0) → view_frame q s ≡ view_frame p s
        at s (no z) h = pins_other s z
        at s (yes w) (inl h) = rw w (view_same p q f (ap (λ (y : ℕ). eqb y evicted) (pins_here p c m r.shape f x (rw e refl) low) ∙ h) (pins_mapped f))
        at s (yes w) (inr h) = rw w (view_unmapped q f (pins_mapped f ∙ h) ∙ sym (view_unmapped p f h))

    -- it is evicted, and its slot is viewed as empty now
    pub evict_view : x ≡ evicted → f < total p → f ≢ none → (j : ℕ) → slot p j ≡ f → ViewChanged p c m j empty
    unfolding pins_after
    evict_view out low z j at =
        record {
          inside = slot_in p j (λ n. z (sym at ∙ n));
          there = ap (view_frame q) (pins_slot j ∙ at) ∙ view_evicted q f (pins_here p c m r.shape f x (rw e refl) low ∙ out);
          others = λ i n. ap (view_frame q) (pins_slot i) ∙ pins_other (slot p i) (λ w. n (r.places.slots_distinct i j (λ v. z (sym w ∙ v)) (w ∙ sym at)));
        }

  -- a frame that stands in no slot is taken
  pub take_view : (f g x y : ℕ) → m.write ≡ TakeFrame f g x y → ((i : ℕ) → slot p i ≢ f) → SameView p c m
  unfolding slots_after pins_after entry_pages_after entry_frames_after
  take_view f g x y e out i =
      ap (view_frame q) (slot_kept p c m (rw e refl) i)
      ∙ view_same p q (slot p i) (ap (λ (v : ℕ). eqb v evicted) (pins_else p c m f x (rw e refl) (slot p i) (out i)))
      (mapped_kept p c m (rw e refl) (rw e refl) (slot p i))

  -- a frame that is in no entry is put into a slot whose frame is evicted, as no frame is
  pub slot_view : (j f : ℕ) → m.write ≡ PutSlot j f → j < p.size → mapped p f ≡ 0 → pins p (slot p j) ≡ evicted → SameView p c m
  unfolding slots_after pins_after entry_pages_after entry_frames_after
  slot_view j f e low n out i = go (ℕ_discrete i j)
    where
      same : (h : ℕ) → view_frame q h ≡ view_frame p h
      same = view_kept (rw e refl) (mapped_kept p c m (rw e refl) (rw e refl))

      go : Dec (i ≡ j) → view_frame q (slot q i) ≡ view_frame p (slot p i)
      go (no z) = ap (view_frame q) (slot_else p c m j f (rw e refl) i z) ∙ same (slot p i)
      go (yes w) =
          rw w (ap (view_frame q) (slot_here p c m r.shape j f (rw e refl) low) ∙ (same f ∙ (view_unmapped p f n ∙ sym (view_evicted p (slot p j) out))))

  -- an entry is put in place of one whose frame is evicted, as no frame is
  module _ (j g f : ℕ) (e : m.write ≡ PutEntry j g f) (low : j < total p) (out : pins p (entry_frame p j) ≡ evicted) where
    entry_slot : (i : ℕ) → slot q i ≡ slot p i
    unfolding slots_after
    entry_slot = slot_kept p c m (rw e refl)

    entry_pins : (h : ℕ) → pins q h ≡ pins p h
    unfolding pins_after
    entry_pins = pins_kept p c m (rw e refl)

    entry_other : (h : ℕ) → h ≢ f → view_frame q h ≡ view_frame p h
    entry_other h z = go (ℕ_discrete h (entry_frame p j))
      where
        go : Dec (h ≡ entry_frame p j) → view_frame q h ≡ view_frame p h
        go (yes w) = rw w (view_evicted q _ (entry_pins _ ∙ out) ∙ sym (view_evicted p _ out))
        go (no w) = view_same p q h (ap (λ (x : ℕ). eqb x evicted) (entry_pins h)) (put_other p c m r.shape j g f e low h z w)

    -- it is removed
    pub remove_view : f ≡ none → SameView p c m
    remove_view w i = ap (view_frame q) (entry_slot i) ∙ go (ℕ_discrete (slot p i) f)
      where
        go : Dec (slot p i ≡ f) → view_frame q (slot p i) ≡ view_frame p (slot p i)
        go (no z) = entry_other (slot p i) z
        go (yes z) =
            let n : pins p (slot p i) ≡ evicted = ap (pins p) (z ∙ w) ∙ none_evicted p r.shape in
            view_evicted q _ (entry_pins _ ∙ n) ∙ sym (view_evicted p _ n)

    -- it is a frame that stands in a slot and is in no entry: the slot is viewed with the page now
    pub map_view : f ≢ none → mapped p f ≡ 0 → pins p f ≢ evicted → (s : ℕ) → slot p s ≡ f → ViewChanged p c m s (stores g f)
    map_view z n live s at =
        record {
          inside = slot_in p s (λ v. z (sym at ∙ v));
          there =
              let now = put_new p c m r.shape j g f e low r.mapping.entries_distinct (λ _ i _. mapped_none p f z n i) z in
              ap (view_frame q) (entry_slot s ∙ at) ∙ view_mapped q f (λ w. live (sym (entry_pins f) ∙ w)) now;
          others = λ i v. ap (view_frame q) (entry_slot i) ∙ entry_other (slot p i) (λ w. v (r.places.slots_distinct i s (λ x. z (sym w ∙ x)) (w ∙ sym at)));
        }
