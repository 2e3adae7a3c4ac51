-- The table's and the grants' searches over the arrays that are lent, and the pool's own that they are. Assumes nothing.
use Rattle.std.specs.Prelude.{◌≡◌, refl, Bool, not, List, ℕ, eqb}
use Rattle.pool.specs.Choose.{both, scan}
use Rattle.pool.specs.State.{none, total, within, client, entry_page, entry_frame, of_client, grant_page}
use Rattle.pool.specs.Table.{maps, entry_of, unused_entry}
use Rattle.pool.specs.Grants.{grant_of}
use Rattle.pool.specs.declared.Pool.{Pool}

-- whether place i of n, with their pages and frames, maps page g; and the first such place
unfoldable pub maps_in : List ℕ → List ℕ → ℕ → ℕ → ℕ → Bool
maps_in pages frames n g i = both (eqb (within pages n 0 i) g) (not (eqb (within frames n none i) none))

unfoldable pub entry_in : List ℕ → List ℕ → ℕ → ℕ → ℕ
entry_in pages frames n g = scan (maps_in pages frames n g) (λ i. i) none 0 n

pub entry_in_lem : (p : Pool) (g : ℕ) → entry_in p.table_pages p.table_frames (total p) g ≡ entry_of p g
unfolding maps_in entry_in entry_of maps entry_page entry_frame
entry_in_lem p g = refl

-- the frame there
abbrev pub lookup_in : List ℕ → List ℕ → ℕ → ℕ → ℕ
lookup_in pages frames n g = within frames n none (entry_in pages frames n g)

-- the first unused place of n
unfoldable pub unused_in : List ℕ → ℕ → ℕ
unused_in frames n = scan (λ i. eqb (within frames n none i) none) (λ i. i) none 0 n

pub unused_in_lem : (p : Pool) → unused_in p.table_frames (total p) ≡ unused_entry p
unfolding unused_in unused_entry entry_frame
unused_in_lem p = refl

-- the place among client c's n grants of its first on page g
unfoldable pub grant_in : List ℕ → ℕ → ℕ → ℕ → ℕ
grant_in pages c n g = scan (λ i. eqb (of_client pages c n 0 i) g) (λ i. i) none 0 n

pub grant_in_lem : (p : Pool) (c g : ℕ) → grant_in p.grant_pages c (client p c).held g ≡ grant_of p c g
unfolding grant_in grant_of grant_page
grant_in_lem p c g = refl
