-- The rank of a pool: a number that falls at every accepted step which is no answer, and rises at no call but an answer. So between two answers there
-- are no more accepted steps than it can fall. It says how many steps can still be made, at the most, before somebody has an answer: each client's way
-- from its stage to a grant, and what the clients can do to each other on the way. `StageFalls` goes over the stages, `Bound` says how large it can be.
--
-- Its weights:
--   lap     A sweep that lowers a count, and leaves it above 0, passes the frame by, and its busy run is over. Up to S looks, at 11 and 12, and a 13 are
--           made until it comes to that again.
--   detour  One client spoils what another has read: it pins or evicts a frame, or replaces one in its slot. The other goes on with the next slot and no
--           busy run: up to S looks, then 13, 14 and 15 are made until it comes to that again. (Where a 6 claims a slot, another at 6 reads free again,
--           at 5; where an 8 fills one, the way of another at 8 is longer by up to S. Both cost less.)
--   toll    Such an action may spoil what all T - 1 others have read. Whoever makes it pays a detour for each of them, so that the rank falls in spite
--           of it.
--   anew    A client that finds at 22 that its page's entry is gone starts anew: the 22 and the 23, and the way from 4 to 22 once more, with the toll of
--           its 15 or 8.
--
-- What weighs how much:
--   a resident frame   a lap for each count above 1, and a toll, which pays for its eviction at 14. Counts are raised, and frames become resident, with
--                      an answer only (3, 21; 18, 22): a frame that a 4 has taken weighs nothing yet.
--   a free slot        a toll, which pays where a 6 claims it
--   a client           the steps from its stage to a grant, with the tolls that it may have to pay on the way (`bases`). At 1 to 8, but for 3, at 10 to
--                      15 and at 23 there are two, one for its 15, or its 8, and one for its 19 (a pin at 2 pays with these, as 3 follows); at 9, at 16
--                      to 19 and at 22 one; at 3, 20 and 21, where it has pinned its frame, none. At rest it weighs as much as at 1, since a begin is
--                      not counted and must not raise the rank. At 11 and 12 there are two steps for each visit that its busy run lacks of S, at 8 as
--                      many as there are full slots on the way to an empty one. Besides
--     a detour         where what it read is spoilt (`spoilt_at`)
--     a start anew     where the table has the page that it wants, or where it rests, as it may begin any page (`wants_at`): that entry may be found at
--                      18 and be gone at 22. After that there is none, and only an answer brings one.
--     a start anew     where this has happened: at 19 or 22 the table no longer has the frame that it found (`lost_at`). A 17 that removes the entry
--                      turns the weight above into this one. This is why a removal cannot send a client round for ever.
-- Definitions only. Assumes nothing.
use mathlib.Core.Bool.{Bool, true, false, not, ◌&&◌, ◌||◌}
use mathlib.Core.List.{List, [], ◌∷◌}
use Prim.Native.Nat.{ℕ, ◌+◌, ◌-◌, ◌*◌}
use lib.Dec.{eqb, ltb}
use lib.ListN.{get_or}
use Rattle.pool.specs.Choose.{choose, scan}
use Rattle.pool.specs.State.{none, evicted, pinned, number_of_clients, slot, pins, count, client}
use Rattle.pool.specs.Table.{lookup}
use Rattle.pool.specs.declared.Pool.{Pool}
use Rattle.pool.specs.declared.Client.{Client}
use Rattle.invariant.proofs.Reached.{sum_to, mapped, examining}

-- n where the test passes
abbrev pub weigh : Bool → ℕ → ℕ
weigh true n = n
weigh false n = 0

-- ---- the weights, in a pool of s slots and t clients

unfoldable pub lap : ℕ → ℕ
lap s = 2 * s + 1

unfoldable pub detour : ℕ → ℕ
detour s = 2 * s + 3

unfoldable pub toll : ℕ → ℕ → ℕ
toll s t = detour s * (t - 1)

unfoldable pub anew : ℕ → ℕ → ℕ
anew s t = toll s t + 2 * s + 12

-- ---- frames

abbrev pub resident_frame : Pool → ℕ → Bool
resident_frame p f = not (eqb (pins p f) evicted) && not (eqb (mapped p f) 0)

unfoldable pub frame_rank : ℕ → ℕ → Pool → ℕ → ℕ
frame_rank s t p f = weigh (resident_frame p f) (lap s * (count p f - 1) + toll s t)

-- ---- a client k that stands at stage i

-- the slot d places on from slot i, round the end; how many full slots there are from slot i on, up to the first empty one, or s if all are full
unfoldable pub ahead : ℕ → ℕ → ℕ → ℕ
ahead s i d = choose (ltb (i + d) s) (i + d) (i + d - s)

unfoldable pub way : ℕ → Pool → ℕ → ℕ
way s p i = scan (λ d. eqb (slot p (ahead s i d)) none) (λ d. d) s 0 s

-- what it read is no longer so: free, the pins of its victim, the frame in its slot
abbrev pub spoilt_by : ℕ → ℕ → ℕ → ℕ → Client → Bool
spoilt_by free n frame i k =
    (eqb i 6 && not (eqb free k.seen)) || (((eqb i 13 || eqb i 14) && not (eqb n (pinned 0))) || (examining i && not (eqb frame k.victim)))

module _ (p : Pool) (i : ℕ) (k : Client) where
  abbrev pub spoilt_at : Bool
  spoilt_at = spoilt_by p.free (pins p k.victim) (slot p k.place) i k

  abbrev pub wants_at : Bool
  wants_at = eqb i 0 || not (eqb (lookup p k.page) none)

  abbrev pub lost_at : Bool
  lost_at = (eqb i 19 || eqb i 22) && not (eqb (lookup p k.page) k.found)

-- at rest, at stage 1, 2 and so on
abbrev pub bases : ℕ → ℕ → Client → List ℕ
bases s t k =
    let d = toll s t in
    let far = 2 * d + 2 * s in
    let left = 2 * (s - k.busy) in
    (far + 13) ∷ (far + 13) ∷ (far + 12) ∷ 0 ∷ (far + 11) ∷ (far + 10) ∷ (far + 9) ∷ (2 * d + s + 6) ∷ (2 * d + 5) ∷ (d + 4) ∷ (far + 9) ∷
    (2 * d + left + 8) ∷ (2 * d + left + 7) ∷ (2 * d + 8) ∷ (2 * d + 7) ∷ (2 * d + 6) ∷ (d + 5) ∷ (d + 4) ∷ (d + 3) ∷ (d + 2) ∷ 1 ∷ 0 ∷ (d + 1) ∷
    (far + 12) ∷ []

module _ (s t : ℕ) (p : Pool) where
  unfoldable pub rank_at : ℕ → Client → ℕ
  rank_at i k =
      get_or (bases s t k) i 0 + weigh (eqb i 8) (way s p k.place) + weigh (spoilt_at p i k) (detour s) + weigh (wants_at p i k) (anew s t)
      + weigh (lost_at p i k) (anew s t)

  abbrev pub client_rank : Client → ℕ
  client_rank k = rank_at k.stage k

  -- ---- all of it

  abbrev pub frames : ℕ
  frames = sum_to (frame_rank s t p) (s + 2 * t) + toll s t * p.free

  unfoldable pub rank_of : ℕ
  rank_of = frames + sum_to (λ c. client_rank (client p c)) t

abbrev pub rank : Pool → ℕ
rank p = rank_of p.size (number_of_clients p) p
