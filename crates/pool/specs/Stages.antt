-- The 23 stages: SPECIFICATION, section 4, stage by stage. Each is a move of the client k that stands there; its further arguments are the numbers
-- of the pool that the action reads, all at one moment. `stages` says for each stage which they are. Assumes nothing.
use Rattle.std.specs.Prelude.{List, [], ◌∷◌, ℕ, ◌+◌, ◌-◌, ◌%◌, eqb, ltb, get_or}
use Rattle.pool.specs.Limits.{index_pages, index_count}
use Rattle.pool.specs.Choose.{choose}
use Rattle.pool.specs.State.{none, evicted, pinned, slot, page, pins, count}
use Rattle.pool.specs.Table.{entry_of, lookup, unused_entry}
use Rattle.pool.specs.Frames.{free_frame}
use Rattle.pool.specs.Moves.{with_own, with_found, with_victim, with_seen, with_place, sweeping, works_as, works, stuck, granted, refused15}
use Rattle.pool.specs.declared.Pool.{Pool}
use Rattle.pool.specs.declared.Client.{Client}
use Rattle.pool.specs.declared.Move.{Move}
use Rattle.pool.specs.declared.Counted.{Counted}
use Rattle.pool.specs.declared.Counted.TheVariants.{Hit, Join, Admitted, Revived, Drop}
use Rattle.pool.specs.declared.Write.{Write}
use Rattle.pool.specs.declared.Write.TheVariants.{Keep, PutSlot, PutPins, PutCount, TakeFrame, PutEntry, PutHand, PutFree}

-- ---- numbers

-- SPECIFICATION 1.3: the slot after slot i of a pool of `size` slots
unfoldable pub around : ℕ → ℕ → ℕ
around size i = choose (ltb (i + 1) size) (i + 1) 0

-- SPECIFICATION 1.5: the hand n further
unfoldable pub advanced : ℕ → ℕ → ℕ
advanced hand n = (hand + n) % 4294967296

-- SPECIFICATION 4.27. Added up before s is taken off, since these numbers are never negative.
unfoldable pub growth : ℕ → ℕ → ℕ → ℕ
growth size i s = choose (ltb i s) (i + size + 1 - s) (i + 1 - s)

-- SPECIFICATION 4.26: a count after it was raised
unfoldable pub raised : ℕ → ℕ → ℕ
raised cap n = choose (ltb n cap) (n + 1) n

-- SPECIFICATION 4.31: the count that a frame starts with, which is taken for page g
unfoldable pub first_count : ℕ → ℕ → ℕ
first_count cap g = choose (ltb g index_pages) (choose (ltb cap index_count) cap index_count) 1

-- ---- what several stages share

module _ (k : Client) (size : ℕ) where
  -- SPECIFICATION 4.24: next slot
  abbrev pub next_slot : Write → Move
  next_slot write = works (sweeping k k.start (around size k.place) 0) 11 write

  -- SPECIFICATION 4.25, refusal 15: a busy visit
  unfoldable pub busy_visit : Move
  busy_visit =
      choose (eqb (k.busy + 1) size)
      (refused15 k)
      (works (sweeping k k.start (around size k.place) (k.busy + 1)) 11 Keep)

module _ (k : Client) where
  -- what stages 3 and 21 do
  abbrev pub granted_found : ℕ → ℕ → Counted → Move
  granted_found cap n counted = granted k k.found (PutCount k.found (raised cap n)) counted

  -- SPECIFICATION 4.28: what stages 20 and 23 do
  unfoldable pub evict_own : ℕ → ℕ → Move
  evict_own n stage =
      choose (eqb n (pinned 1))
      (works (with_own k none) stage (PutPins k.own evicted))
      (works (with_own k none) stage Keep)

  -- ---- the stages

  -- stage 1: look up the page
  unfoldable pub stage1 : ℕ → Move
  stage1 f = choose (eqb f none) (works k 4 Keep) (works (with_found k f) 2 Keep)

  -- stage 2: pin the frame found
  unfoldable pub stage2 : ℕ → Move
  stage2 n = choose (eqb n evicted) (works (with_found k none) 4 Keep) (works k 3 (PutPins k.found (n + 1)))

  -- stage 3: raise the frame's count
  unfoldable pub stage3 : ℕ → ℕ → Move
  stage3 cap n = granted_found cap n Hit

  -- SPECIFICATION 4.31: frame f is taken for the page, and starts with its first count
  abbrev pub taking : ℕ → ℕ → Move
  taking cap f = works (with_own k f) 5 (TakeFrame f k.page (pinned 1) (first_count cap k.page))

  -- stage 4: take a frame. SPECIFICATION 4.30: there may be none.
  unfoldable pub stage4 : ℕ → ℕ → Move
  stage4 cap f = choose (eqb f none) (stuck k) (taking cap f)

  -- stage 5: read free
  unfoldable pub stage5 : ℕ → Move
  stage5 free = choose (eqb free 0) (works k 10 Keep) (works (with_seen k free) 6 Keep)

  -- stage 6: lower free. SPECIFICATION 4.30: a handed pool may have a client here that saw a free of 0.
  unfoldable pub stage6 : ℕ → Move
  stage6 free = choose (eqb free k.seen) (choose (eqb free 0) (stuck k) (works k 7 (PutFree (free - 1)))) (works k 5 Keep)

  -- stage 7: read the hand
  unfoldable pub stage7 : ℕ → ℕ → Move
  stage7 hand size = works (with_place k (hand % size)) 8 Keep

  -- stage 8: put the own frame into an empty slot
  unfoldable pub stage8 : ℕ → ℕ → Move
  stage8 f size = choose (eqb f none) (works k 9 (PutSlot k.place k.own)) (works (with_place k (around size k.place)) 8 Keep)

  -- stage 9: move the hand on by one
  unfoldable pub stage9 : ℕ → Move
  stage9 hand = works k 18 (PutHand (advanced hand 1))

  -- stage 10: start a sweep at the hand
  unfoldable pub stage10 : ℕ → ℕ → Move
  stage10 hand size = works (sweeping k hand (hand % size) 0) 11 Keep

  -- stage 11: look at the next slot
  unfoldable pub stage11 : ℕ → ℕ → Move
  stage11 f size = choose (eqb f none) (busy_visit k size) (works (with_victim k f) 12 Keep)

  -- stage 12: read the victim's pins
  unfoldable pub stage12 : ℕ → ℕ → Move
  stage12 n size = choose (eqb n evicted) (works k 15 Keep) (choose (eqb n (pinned 0)) (works k 13 Keep) (busy_visit k size))

  -- stage 13: lower the victim's count. 0 less 1 is 0 here, which SPECIFICATION 4.26 asks for.
  unfoldable pub stage13 : ℕ → ℕ → Move
  stage13 n size =
      choose (eqb (n - 1) 0)
      (works k 14 (PutCount k.victim (n - 1)))
      (next_slot k size (PutCount k.victim (n - 1)))

  -- stage 14: evict the victim
  unfoldable pub stage14 : ℕ → ℕ → Move
  stage14 n size = choose (eqb n (pinned 0)) (works k 15 (PutPins k.victim evicted)) (next_slot k size Keep)

  -- stage 15: put the own frame in the victim's place
  unfoldable pub stage15 : ℕ → ℕ → Move
  stage15 f size = choose (eqb f k.victim) (works k 16 (PutSlot k.place k.own)) (next_slot k size Keep)

  -- stage 16: move the hand past the slot
  unfoldable pub stage16 : ℕ → ℕ → Move
  stage16 hand size = works k 17 (PutHand (advanced hand (growth size k.place (k.start % size))))

  -- stage 17: remove the victim's table entry, which drops its page (SPECIFICATION 7.3). Read: the victim's page, the place of its entry, and the
  -- frame there.
  unfoldable pub stage17 : ℕ → ℕ → ℕ → Move
  stage17 g i f = choose (eqb f k.victim) (works_as (with_victim k none) Drop 18 (PutEntry i g none)) (works (with_victim k none) 18 Keep)

  -- stage 18: map the page to the own frame. SPECIFICATION 4.30: the table may be full. Read: the frame that the table has for the page, and the
  -- first unused place.
  unfoldable pub stage18 : ℕ → ℕ → Move
  stage18 f i =
      choose (eqb f none)
      (choose (eqb i none) (stuck k) (granted k k.own (PutEntry i k.page k.own) Admitted))
      (works (with_found k f) 19 Keep)

  -- stage 19: pin the frame that the table has
  unfoldable pub stage19 : ℕ → Move
  stage19 n = choose (eqb n evicted) (works k 22 Keep) (works k 20 (PutPins k.found (n + 1)))

  -- stage 20: give the own frame up to join
  unfoldable pub stage20 : ℕ → Move
  stage20 n = evict_own n 21

  -- stage 21: raise the joined frame's count
  unfoldable pub stage21 : ℕ → ℕ → Move
  stage21 cap n = granted_found cap n Join

  -- stage 22: map the page anew, to the own frame. Read: the place of the page's entry, and the frame there.
  unfoldable pub stage22 : ℕ → ℕ → Move
  stage22 i f = choose (eqb f k.found) (granted k k.own (PutEntry i k.page k.own) Revived) (works (with_found k none) 23 Keep)

  -- stage 23: give the own frame up to start anew
  unfoldable pub stage23 : ℕ → Move
  stage23 n = evict_own n 4

-- ---- which numbers each stage reads

abbrev pub Stage : Type 0
Stage = Pool → Client → Move

-- no client works at stage 0
abbrev pub no_stage : Stage
no_stage p k = stuck k

-- SPECIFICATION 3.3: the stages by their numbers
abbrev pub stages : List Stage
stages =
    no_stage
    ∷ (λ p k. stage1 k (lookup p k.page))
    ∷ (λ p k. stage2 k (pins p k.found))
    ∷ (λ p k. stage3 k p.cap (count p k.found))
    ∷ (λ p k. stage4 k p.cap (free_frame p))
    ∷ (λ p k. stage5 k p.free)
    ∷ (λ p k. stage6 k p.free)
    ∷ (λ p k. stage7 k p.hand p.size)
    ∷ (λ p k. stage8 k (slot p k.place) p.size)
    ∷ (λ p k. stage9 k p.hand)
    ∷ (λ p k. stage10 k p.hand p.size)
    ∷ (λ p k. stage11 k (slot p k.place) p.size)
    ∷ (λ p k. stage12 k (pins p k.victim) p.size)
    ∷ (λ p k. stage13 k (count p k.victim) p.size)
    ∷ (λ p k. stage14 k (pins p k.victim) p.size)
    ∷ (λ p k. stage15 k (slot p k.place) p.size)
    ∷ (λ p k. stage16 k p.hand p.size)
    ∷ (λ p k. let g = page p k.victim in stage17 k g (entry_of p g) (lookup p g))
    ∷ (λ p k. stage18 k (lookup p k.page) (unused_entry p))
    ∷ (λ p k. stage19 k (pins p k.found))
    ∷ (λ p k. stage20 k (pins p k.own))
    ∷ (λ p k. stage21 k p.cap (count p k.found))
    ∷ (λ p k. stage22 k (entry_of p k.page) (lookup p k.page))
    ∷ (λ p k. stage23 k (pins p k.own))
    ∷ []

-- SPECIFICATION 3.3: the move of a client at its stage
unfoldable pub stage_move : Stage
stage_move p k = get_or stages k.stage no_stage p k
