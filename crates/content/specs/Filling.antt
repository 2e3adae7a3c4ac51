-- What filling and writing a frame leave of each part of the memory, over the lists that are lent; put together they are `filled_from` and `written`.
-- Assumes nothing.
use Rattle.std.specs.Prelude.{◌≡◌, refl, Bool, true, false, not, List, ℕ, ◌+◌, ltb, get_or, set}
use Rattle.pool.specs.Choose.{choose, both}
use Rattle.memory.specs.Memory.{page_bytes, start, is_frame, byte, mark, is_filled, copied_page, filled_from, written}
use Rattle.memory.specs.declared.Memory.{Memory}

-- ---- filling frame f from page g, of n

unfoldable pub wanted : List ℕ → ℕ → ℕ → ℕ → Bool
wanted filled n f g = both (is_frame f) (both (not (mark filled f)) (ltb g n))

unfoldable pub bytes_filled : List ℕ → ℕ → ℕ → ℕ → List ℕ → List ℕ → List ℕ
bytes_filled filled n f g bytes s = choose (wanted filled n f g) (copied_page bytes f s g) bytes

unfoldable pub marks_filled : List ℕ → ℕ → ℕ → ℕ → List ℕ
marks_filled filled n f g = choose (wanted filled n f g) (set filled f 1) filled

abbrev parts_filled : Memory → List ℕ → ℕ → ℕ → Memory
parts_filled m s f g =
    record {
      pages = m.pages;
      bytes = bytes_filled m.filled m.pages f g m.bytes s;
      filled = marks_filled m.filled m.pages f g;
      changed = m.changed;
    }

pub filled_in_parts : (m : Memory) (s : List ℕ) (f g : ℕ) → parts_filled m s f g ≡ filled_from m s f g
unfolding bytes_filled marks_filled wanted filled_from is_filled choose
filled_in_parts m s f g = go (both (is_frame f) (both (not (mark m.filled f)) (ltb g m.pages)))
  where
    go : (t : Bool) → record {
      pages = m.pages;
      bytes = choose t (copied_page m.bytes f s g) m.bytes;
      filled = choose t (set m.filled f 1) m.filled;
      changed = m.changed;
    }
        ≡ choose t (record { pages = m.pages; bytes = copied_page m.bytes f s g; filled = set m.filled f 1; changed = m.changed }) m
    go true = refl
    go false = refl

-- ---- a byte of frame f

unfoldable pub byte_in : List ℕ → ℕ → ℕ → ℕ
byte_in bytes f o = choose (is_frame f) (get_or bytes (start f + o) 0) 0

pub byte_in_lem : (m : Memory) (f o : ℕ) → byte_in m.bytes f o ≡ byte m f o
unfolding byte_in byte
byte_in_lem m f o = refl

unfoldable pub bytes_written : List ℕ → ℕ → ℕ → ℕ → List ℕ
bytes_written bytes f o v = choose (both (is_frame f) (ltb o page_bytes)) (set bytes (start f + o) v) bytes

unfoldable pub marks_written : List ℕ → ℕ → ℕ → List ℕ
marks_written changed f o = choose (both (is_frame f) (ltb o page_bytes)) (set changed f 1) changed

abbrev parts_written : Memory → ℕ → ℕ → ℕ → Memory
parts_written m f o v =
    record { pages = m.pages; bytes = bytes_written m.bytes f o v; filled = m.filled; changed = marks_written m.changed f o }

pub written_in_parts : (m : Memory) (f o v : ℕ) → parts_written m f o v ≡ written m f o v
unfolding bytes_written marks_written written choose
written_in_parts m f o v = go (both (is_frame f) (ltb o page_bytes))
  where
    go : (t : Bool) → record {
      pages = m.pages;
      bytes = choose t (set m.bytes (start f + o) v) m.bytes;
      filled = m.filled;
      changed = choose t (set m.changed f 1) m.changed;
    }
        ≡ choose t (record { pages = m.pages; bytes = set m.bytes (start f + o) v; filled = m.filled; changed = set m.changed f 1 }) m
    go true = refl
    go false = refl
