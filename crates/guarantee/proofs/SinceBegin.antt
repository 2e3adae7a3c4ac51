-- What stays as it was at a begin while its client runs alone and has written counters alone: slots, look-up, and the pins of the frames in
-- slots. Every write of counters alone leaves them, and emptying an entry leaves an absent page absent. Assumes nothing.
use mathlib.Core.Path.{◌≡◌, sym, ap, subst, ◌∙◌}
use mathlib.Core.Logic.{◌≢◌}
use mathlib.Core.List.{[]}
use Prim.Native.Nat.{ℕ, ◌<◌}
use native.Mathlib.Decide.{ℕ_discrete}
use lib.Dec.{T}
use Rattle.pool.specs.State.{none, total, slot, pins, entry_frame}
use Rattle.pool.specs.Table.{entry_of, lookup}
use Rattle.pool.specs.Apply.{stored, entry_pages_after, entry_frames_after, apply}
use Rattle.pool.specs.declared.Pool.{Pool}
use Rattle.pool.specs.declared.Move.{Move}
use Rattle.pool.specs.declared.Write.TheVariants.{PutEntry}
use Rattle.invariant.proofs.Reached.{Reached}
use Rattle.invariant.proofs.After.{shape_next, slot_kept, pins_kept, entry_page_else, entry_frame_here, entry_frame_else}
use Rattle.invariant.proofs.Writes.{counters_only, untouched, lookup_kept}
use Rattle.invariant.proofs.Searches.{lookup_found, lookup_none}

-- ---- what stays as it was at the begin

pub record SameAsBegin (p₀ p : Pool) (g : ℕ) : Type 0 where
  pub slots : (i : ℕ) → slot p i ≡ slot p₀ i
  pub lookup : lookup p g ≡ lookup p₀ g
  pub size : p.size ≡ p₀.size
  pub pins : (i : ℕ) → pins p (slot p₀ i) ≡ pins p₀ (slot p₀ i)

-- ---- a write that slots, pins and table do not see

module _ (p : Pool) (c : ℕ) (m : Move) (r : Reached p) (t : T (counters_only m.write)) where
  pub counters_slot : (i : ℕ) → slot (apply p c m) i ≡ slot p i
  counters_slot = slot_kept p c m (untouched _ _ m.write t).slots

  pub counters_pins : (f : ℕ) → pins (apply p c m) f ≡ pins p f
  counters_pins = pins_kept p c m (untouched _ _ m.write t).pins

  pub same_as_begin_next : {p₀ : Pool} {g : ℕ} → SameAsBegin p₀ p g → SameAsBegin p₀ (apply p c m) g
  unfolding apply
  same_as_begin_next {g = g} h =
      record {
        slots = λ i. counters_slot i ∙ h.slots i;
        lookup = lookup_kept p c m (untouched 0 [] m.write t).table g ∙ h.lookup;
        size = h.size;
        pins = λ i. counters_pins _ ∙ h.pins i;
      }

-- a page that the table lacks it lacks still when an entry is emptied
pub absent_removed : (p : Pool) (c i x : ℕ) (m : Move) → m.write ≡ PutEntry i x none → Reached p → (g : ℕ) → lookup p g ≡ none → lookup (apply p c m) g ≡ none
unfolding apply entry_pages_after entry_frames_after
absent_removed p c i x m e r g a = elim (ℕ_discrete (lookup q g) none) [ yes n ↦ n | no z ↦ absurd (by z (ℕ_discrete (entry_of q g) i)) ]
  where
    q : Pool
    q = apply p c m

    frames : entry_frames_after (total p) p.table_frames m.write ≡ stored p.table_frames (total p) i none
    frames = ap (entry_frames_after (total p) p.table_frames) e

    by : lookup q g ≢ none → Dec (entry_of q g ≡ i) → ⊥
    by z (yes n) =
        let f = lookup_found q (shape_next p c m r.shape) g z in
        z (sym f.entry_frame ∙ (ap (entry_frame q) n ∙ entry_frame_here p c m r.shape i none frames (subst (λ (y : ℕ). y < total p) n f.inside)))
    by z (no n) =
        let f = lookup_found q (shape_next p c m r.shape) g z in
        lookup_none p r.shape g a (entry_of q g)
        (λ w. z (sym f.entry_frame ∙ (entry_frame_else p c m i none frames (entry_of q g) n ∙ w)))
        (sym (entry_page_else p c m i x (ap (entry_pages_after (total p) p.table_pages) e) (entry_of q g) n) ∙ f.entry_page)
