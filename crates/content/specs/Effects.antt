-- What a write leaves of each part of memory and store, over the lists that are lent; put together they are `memory_after` and `store_after`.
-- Assumes nothing.
use Rattle.std.specs.Prelude.{◌≡◌, refl, Bool, true, false, List, ℕ, eqb, ltb, get_or, set}
use Rattle.pool.specs.Choose.{choose, both}
use Rattle.pool.specs.State.{none, total, within, entry_frame}
use Rattle.pool.specs.declared.Pool.{Pool}
use Rattle.pool.specs.declared.Write.{Write}
use Rattle.pool.specs.declared.Write.TheVariants.{Keep, PutSlot, PutPins, PutCount, TakeFrame, PutEntry, PutHand, PutFree}
use Rattle.memory.specs.Memory.{is_frame, mark, is_changed, copied_page, unmarked, moved, memory_after, written_back, store_after}
use Rattle.memory.specs.declared.Memory.{Memory}

-- the frame of the entry that a write replaces, of n places of the table; none where it replaces none
unfoldable pub replaced_in : List ℕ → ℕ → Write → ℕ
replaced_in frames n Keep = none
replaced_in frames n (PutSlot i f) = none
replaced_in frames n (PutPins f x) = none
replaced_in frames n (PutCount f x) = none
replaced_in frames n (TakeFrame f g x y) = none
replaced_in frames n (PutEntry i g f) = within frames n none i
replaced_in frames n (PutHand h) = none
replaced_in frames n (PutFree x) = none

-- ---- marks

unfoldable pub cleared : List ℕ → ℕ → List ℕ
cleared l f = choose (is_frame f) (set l f 0) l

unfoldable pub marks_moved : List ℕ → ℕ → ℕ → List ℕ
marks_moved l e f = choose (both (is_frame e) (is_frame f)) (set (set l e 0) f (get_or l e 0)) l

-- where the entry that is replaced has frame e
unfoldable pub marks_after : List ℕ → ℕ → Write → List ℕ
marks_after l e Keep = l
marks_after l e (PutSlot i f) = l
marks_after l e (PutPins f x) = l
marks_after l e (PutCount f x) = l
marks_after l e (TakeFrame f g x y) = cleared l f
marks_after l e (PutEntry i g f) = marks_moved l e f
marks_after l e (PutHand h) = l
marks_after l e (PutFree x) = l

-- ---- bytes

unfoldable pub bytes_moved : List ℕ → ℕ → ℕ → List ℕ
bytes_moved l e f = choose (both (is_frame e) (is_frame f)) (copied_page l f l e) l

unfoldable pub bytes_after : List ℕ → ℕ → Write → List ℕ
bytes_after l e Keep = l
bytes_after l e (PutSlot i f) = l
bytes_after l e (PutPins f x) = l
bytes_after l e (PutCount f x) = l
bytes_after l e (TakeFrame f g x y) = l
bytes_after l e (PutEntry i g f) = bytes_moved l e f
bytes_after l e (PutHand h) = l
bytes_after l e (PutFree x) = l

-- ---- the store, of n pages

module _ (n : ℕ) (bytes changed s : List ℕ) where
  unfoldable pub saved_in : ℕ → ℕ → ℕ → List ℕ
  saved_in g e f = choose (both (eqb f none) (both (mark changed e) (ltb g n))) (copied_page s g bytes e) s

  unfoldable pub store_in : ℕ → Write → List ℕ
  store_in e Keep = s
  store_in e (PutSlot i f) = s
  store_in e (PutPins f x) = s
  store_in e (PutCount f x) = s
  store_in e (TakeFrame f g x y) = s
  store_in e (PutEntry i g f) = saved_in g e f
  store_in e (PutHand h) = s
  store_in e (PutFree x) = s

-- ---- put together

-- of pool p
abbrev pub replaced_of : Pool → Write → ℕ
replaced_of p w = replaced_in p.table_frames (total p) w

abbrev parts_after : Memory → ℕ → Write → Memory
parts_after m e w =
    record {
      pages = m.pages;
      bytes = bytes_after m.bytes e w;
      filled = marks_after m.filled e w;
      changed = marks_after m.changed e w;
    }

-- marks that are taken off, and bytes and marks that move, part by part
off : (m : Memory) (f : ℕ)
    → record { pages = m.pages; bytes = m.bytes; filled = cleared m.filled f; changed = cleared m.changed f } ≡ unmarked m f
unfolding unmarked cleared choose
off m f = by (is_frame f)
  where
    by : (t : Bool) → record {
      pages = m.pages;
      bytes = m.bytes;
      filled = choose t (set m.filled f 0) m.filled;
      changed = choose t (set m.changed f 0) m.changed;
    } ≡ choose t (record { pages = m.pages; bytes = m.bytes; filled = set m.filled f 0; changed = set m.changed f 0 }) m
    by true = refl
    by false = refl

move : (m : Memory) (e f : ℕ)
    → record { pages = m.pages; bytes = bytes_moved m.bytes e f; filled = marks_moved m.filled e f; changed = marks_moved m.changed e f }
    ≡ moved m e f
unfolding moved bytes_moved marks_moved choose
move m e f = by (both (is_frame e) (is_frame f)) _ _ _
  where
    by : (t : Bool) (bytes filled changed : List ℕ) → record {
      pages = m.pages;
      bytes = choose t bytes m.bytes;
      filled = choose t filled m.filled;
      changed = choose t changed m.changed;
    } ≡ choose t (record { pages = m.pages; bytes = bytes; filled = filled; changed = changed }) m
    by true bytes filled changed = refl
    by false bytes filled changed = refl

pub memory_in_parts : (p : Pool) (m : Memory) (w : Write) → parts_after m (replaced_of p w) w ≡ memory_after p m w
unfolding memory_after bytes_after marks_after replaced_in entry_frame
memory_in_parts p m Keep = refl
memory_in_parts p m (PutSlot i f) = refl
memory_in_parts p m (PutPins f x) = refl
memory_in_parts p m (PutCount f x) = refl
memory_in_parts p m (TakeFrame f g x y) = off m f
memory_in_parts p m (PutEntry i g f) = move m (within p.table_frames (total p) none i) f
memory_in_parts p m (PutHand h) = refl
memory_in_parts p m (PutFree x) = refl

pub store_in_parts : (p : Pool) (m : Memory) (s : List ℕ) (w : Write) → store_in m.pages m.bytes m.changed s (replaced_of p w) w ≡ store_after p m s w
unfolding store_after store_in saved_in written_back is_changed replaced_in entry_frame
store_in_parts p m s Keep = refl
store_in_parts p m s (PutSlot i f) = refl
store_in_parts p m s (PutPins f x) = refl
store_in_parts p m s (PutCount f x) = refl
store_in_parts p m s (TakeFrame f g x y) = refl
store_in_parts p m s (PutEntry i g f) = refl
store_in_parts p m s (PutHand h) = refl
store_in_parts p m s (PutFree x) = refl
