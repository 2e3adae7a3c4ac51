-- The table, as a list of places with a page and a frame each (SPECIFICATION 1.6). Assumes nothing.
use Rattle.std.specs.Prelude.{Bool, not, ℕ, eqb}
use Rattle.pool.specs.Choose.{both, scan, how_many}
use Rattle.pool.specs.State.{none, evicted, total, pins, entry_page, entry_frame}
use Rattle.pool.specs.declared.Pool.{Pool}

-- whether the entry at a place maps a page
unfoldable pub maps : Pool → ℕ → ℕ → Bool
maps p g i = both (eqb (entry_page p i) g) (not (eqb (entry_frame p i) none))

-- SPECIFICATION 1.6: the place of a page's entry, or none
unfoldable pub entry_of : Pool → ℕ → ℕ
entry_of p g = scan (maps p g) (λ i. i) none 0 (total p)

-- SPECIFICATION 1.6: the frame that a page is mapped to, or none
unfoldable pub lookup : Pool → ℕ → ℕ
lookup p g = entry_frame p (entry_of p g)

-- SPECIFICATION 1.6: where an entry is added, the first unused place; none where the table is full. Removing an entry empties its place.
unfoldable pub unused_entry : Pool → ℕ
unused_entry p = scan (λ i. eqb (entry_frame p i) none) (λ i. i) none 0 (total p)

-- SPECIFICATION 1.7. A page without an entry has frame none, which counts as evicted.
unfoldable pub resident : Pool → ℕ → Bool
resident p g = not (eqb (pins p (lookup p g)) evicted)

-- SPECIFICATION 7.4: how many pages are in the table, evicted ones too. No two entries are of one page (SPECIFICATION 1.6).
unfoldable pub pages_in_table : Pool → ℕ
pages_in_table p = how_many (λ i. not (eqb (entry_frame p i) none)) (total p)
