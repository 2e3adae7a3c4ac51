-- The frames' bytes and marks and the store, and what an action does to them: SPECIFICATION, section 13. Each accessor, and each change, is of the
-- frames that the largest pool has and of the pages that the store has; past them there are no marks, and a change does nothing. Assumes nothing.
use Rattle.std.specs.Prelude.{Bool, false, not, List, ℕ, zero, suc, ◌+◌, ◌*◌, eqb, ltb, get_or, set, replicate}
use Rattle.pool.specs.Limits.{max_frames}
use Rattle.pool.specs.Choose.{choose, both}
use Rattle.pool.specs.State.{none, entry_frame}
use Rattle.pool.specs.Table.{lookup}
use Rattle.pool.specs.declared.Pool.{Pool}
use Rattle.pool.specs.declared.Write.{Write}
use Rattle.pool.specs.declared.Write.TheVariants.{Keep, PutSlot, PutPins, PutCount, TakeFrame, PutEntry, PutHand, PutFree}
use Rattle.memory.specs.declared.Memory.{Memory}

-- SPECIFICATION 13.1: the bytes of a page, and the most pages of a store
abbrev pub page_bytes : ℕ
page_bytes = 64

abbrev pub max_pages : ℕ
max_pages = 256

-- where the bytes of a frame, or of a page of the store, begin
abbrev pub start : ℕ → ℕ
start i = page_bytes * i

-- whether a number is a frame's: none is not
unfoldable pub is_frame : ℕ → Bool
is_frame f = ltb f max_frames

-- ---- reading

-- SPECIFICATION 13.2: frame f's byte at an offset
unfoldable pub byte : Memory → ℕ → ℕ → ℕ
byte m f o = choose (is_frame f) (get_or m.bytes (start f + o) 0) 0

-- SPECIFICATION 13.2: whether frame f has a mark, of a list of them and of each of the two lists. A mark is a byte, and on unless that is 0.
unfoldable pub mark : List ℕ → ℕ → Bool
mark l f = choose (is_frame f) (not (eqb (get_or l f 0) 0)) false

unfoldable pub is_filled : Memory → ℕ → Bool
is_filled m f = mark m.filled f

unfoldable pub is_changed : Memory → ℕ → Bool
is_changed m f = mark m.changed f

-- SPECIFICATION 13.1: page g's byte at an offset
unfoldable pub store_byte : List ℕ → ℕ → ℕ → ℕ
store_byte s g o = get_or s (start g + o) 0

-- SPECIFICATION 13.3: a pool that is set up with a store of n pages has this memory
abbrev pub blank : ℕ → Memory
blank n = record { pages = n; bytes = replicate (page_bytes * max_frames) 0; filled = replicate max_frames 0; changed = replicate max_frames 0 }

-- ---- copying

-- n bytes of a list, from place j on, laid over those of another from place i on
unfoldable pub copied : ℕ → List ℕ → ℕ → List ℕ → ℕ → List ℕ
copied zero to i from j = to
copied (suc n) to i from j = set (copied n to i from j) (i + n) (get_or from (j + n) 0)

-- the i-th 64 bytes of a list replaced by the j-th of another
abbrev pub copied_page : List ℕ → ℕ → List ℕ → ℕ → List ℕ
copied_page to i from j = copied page_bytes to (start i) from (start j)

-- ---- what an action does to memory and store, by what it writes to the pool

-- SPECIFICATION 13.6, stage 4: a frame that is taken has no marks; its bytes are left over
unfoldable pub unmarked : Memory → ℕ → Memory
unmarked m f =
    choose (is_frame f) (record { pages = m.pages; bytes = m.bytes; filled = set m.filled f 0; changed = set m.changed f 0 }) m

-- SPECIFICATION 13.8, stage 22: frame e has no marks then, and frame f gets its bytes and the marks that it had
unfoldable pub moved : Memory → ℕ → ℕ → Memory
moved m e f =
    choose (both (is_frame e) (is_frame f))
    (record {
      pages = m.pages;
      bytes = copied_page m.bytes f m.bytes e;
      filled = set (set m.filled e 0) f (get_or m.filled e 0);
      changed = set (set m.changed e 0) f (get_or m.changed e 0);
    })
    m

-- SPECIFICATION 13.6, 13.8. An entry with frame e gets frame f. Where there was no entry e is none, and where the entry is removed f is: `moved` does
-- nothing then.
unfoldable pub memory_after : Pool → Memory → Write → Memory
memory_after p m Keep = m
memory_after p m (PutSlot i f) = m
memory_after p m (PutPins f x) = m
memory_after p m (PutCount f x) = m
memory_after p m (TakeFrame f g x y) = unmarked m f
memory_after p m (PutEntry i g f) = moved m (entry_frame p i) f
memory_after p m (PutHand h) = m
memory_after p m (PutFree x) = m

-- SPECIFICATION 13.7, stage 17: page g gets the bytes of frame e, if that is changed, where the entry that had e gets frame f, and f is none
unfoldable pub written_back : Memory → List ℕ → ℕ → ℕ → ℕ → List ℕ
written_back m s g e f = choose (both (eqb f none) (both (is_changed m e) (ltb g m.pages))) (copied_page s g m.bytes e) s

unfoldable pub store_after : Pool → Memory → List ℕ → Write → List ℕ
store_after p m s Keep = s
store_after p m s (PutSlot i f) = s
store_after p m s (PutPins f x) = s
store_after p m s (PutCount f x) = s
store_after p m s (TakeFrame f g x y) = s
store_after p m s (PutEntry i g f) = written_back m s g (entry_frame p i) f
store_after p m s (PutHand h) = s
store_after p m s (PutFree x) = s

-- ---- what a read or write of a byte does

-- SPECIFICATION 13.9: frame f filled from page g
unfoldable pub filled_from : Memory → List ℕ → ℕ → ℕ → Memory
filled_from m s f g =
    choose (both (is_frame f) (both (not (is_filled m f)) (ltb g m.pages)))
    (record { pages = m.pages; bytes = copied_page m.bytes f s g; filled = set m.filled f 1; changed = m.changed })
    m

-- SPECIFICATION 13.9: byte v written at an offset of frame f
unfoldable pub written : Memory → ℕ → ℕ → ℕ → Memory
written m f o v =
    choose (both (is_frame f) (ltb o page_bytes))
    (record { pages = m.pages; bytes = set m.bytes (start f + o) v; filled = m.filled; changed = set m.changed f 1 })
    m

-- ---- what a page holds

-- SPECIFICATION 13.13: page g's byte, where the table maps the page to frame f
unfoldable pub cell : Memory → List ℕ → ℕ → ℕ → ℕ → ℕ
cell m s f g o = choose (is_filled m f) (byte m f o) (store_byte s g o)

-- SPECIFICATION 13.13: the byte that a page has at an offset, in the frame that the table maps it to if that is filled, else in the store
unfoldable pub content : Pool → Memory → List ℕ → ℕ → ℕ → ℕ
content p m s g o = cell m s (lookup p g) g o
