-- Check 8 of a pool: SPECIFICATION, section 5. It looks only at the slots, frames, places of the table, clients and grants that the pool has.
-- Assumes nothing.
use Rattle.std.specs.Prelude.{Bool, not, ◌&&◌, ◌||◌, ℕ, eqb, ltb, leb}
use Rattle.pool.specs.Limits.{max_size, max_clients, max_cap, max_held, max_pins}
use Rattle.pool.specs.Choose.{choose, both, either, every}
use Rattle.pool.specs.State.{none, pinned, number_of_clients, total, slot, pins, count, entry_page, entry_frame, client, grant_page, grant_frame}
use Rattle.pool.specs.Table.{entry_of}
use Rattle.pool.specs.Grants.{grant_of}
use Rattle.pool.specs.declared.Pool.{Pool}
use Rattle.pool.specs.declared.Client.{Client}

-- SPECIFICATION 1.1, 5.1: S, T and C
unfoldable pub numbers_ok : ℕ → ℕ → ℕ → Bool
numbers_ok s t c = both (ltb 0 s) (both (leb s max_size) (both (ltb 0 t) (both (leb t max_clients) (both (ltb 0 c) (leb c max_cap)))))

-- ---- a few numbers of a pool with n frames

-- SPECIFICATION 5.2: no frame, or one of the pool's
unfoldable pub frame_ok : ℕ → ℕ → Bool
frame_ok n f = either (eqb f none) (ltb f n)

-- SPECIFICATION 5.6: a frame number that a client keeps
unfoldable pub used_ok : Bool → ℕ → ℕ → Bool
used_ok used n f = choose used (ltb f n) (eqb f none)

-- SPECIFICATION 5.3: a frame's pins, as they are stored, and its count
unfoldable pub state_ok : ℕ → ℕ → ℕ → Bool
state_ok cap q r = both (leb q (pinned max_pins)) (leb r cap)

-- SPECIFICATION 5.4: place i of the table, with the frame there and the place where its page is found. That is another place if the page has two.
unfoldable pub entry_ok : ℕ → ℕ → ℕ → ℕ → Bool
entry_ok n i f first = either (eqb f none) (both (ltb f n) (eqb first i))

-- SPECIFICATION 5.7: a client's grant i, with its frame and the place where its page is found. That is another place if the client has two of the page.
unfoldable pub grant_ok : ℕ → ℕ → ℕ → ℕ → Bool
grant_ok n i f first = both (ltb f n) (eqb first i)

-- ---- a client

-- SPECIFICATION 2.4, 5.6: the stages that need the own frame, the found frame, the victim
abbrev pub uses_own : ℕ → Bool
uses_own s = leb 5 s && not (eqb s 21)

abbrev pub uses_found : ℕ → Bool
uses_found s = (leb 2 s && leb s 3) || (leb 19 s && leb s 22)

abbrev pub uses_victim : ℕ → Bool
uses_victim s = leb 12 s && leb s 17

-- SPECIFICATION 5.5: a client's numbers
unfoldable pub counts_ok : Client → ℕ → Bool
counts_ok k size = both (leb k.stage 23) (both (leb k.held max_held) (both (ltb k.place size) (both (ltb k.busy size) (leb k.seen size))))

-- SPECIFICATION 5.6: a client's frames, in a pool of n
unfoldable pub names_ok : Client → ℕ → Bool
names_ok k n =
    both (used_ok (uses_own k.stage) n k.own)
    (both (used_ok (uses_found k.stage) n k.found) (used_ok (uses_victim k.stage) n k.victim))

-- ---- the pool: a slot, a frame, a place of the table, a client's grant, a client, and all of them

-- SPECIFICATION 5.2
abbrev pub slot_ok_at : Pool → ℕ → Bool
slot_ok_at p i = frame_ok (total p) (slot p i)

-- SPECIFICATION 5.3
abbrev pub state_ok_at : Pool → ℕ → Bool
state_ok_at p f = state_ok p.cap (pins p f) (count p f)

-- SPECIFICATION 5.4
abbrev pub entry_ok_at : Pool → ℕ → Bool
entry_ok_at p i = entry_ok (total p) i (entry_frame p i) (entry_of p (entry_page p i))

-- SPECIFICATION 5.7
abbrev pub grant_ok_at : Pool → ℕ → ℕ → Bool
grant_ok_at p c i = grant_ok (total p) i (grant_frame p c i) (grant_of p c (grant_page p c i))

-- SPECIFICATION 5.5, 5.6, 5.7
unfoldable pub client_ok : Pool → ℕ → Bool
client_ok p c = let k = client p c in both (counts_ok k p.size) (both (names_ok k (total p)) (every (grant_ok_at p c) k.held))

-- SPECIFICATION 5.1, and all the others; refusal 8
unfoldable pub valid : Pool → Bool
valid p =
    both (numbers_ok p.size (number_of_clients p) p.cap)
    (both (both (leb p.free p.size) (frame_ok (total p) p.last))
    (both (every (slot_ok_at p) p.size)
    (both (every (state_ok_at p) (total p))
    (both (every (entry_ok_at p) (total p)) (every (client_ok p) (number_of_clients p))))))
