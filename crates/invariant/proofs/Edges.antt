-- The moves that a call makes in a reached pool, one constructor for each kind, with what its tests found. A stuck move is none of them: no reached
-- pool makes one. Most steps only move the client on, with its frames and grants as they were and the slots, frames and table untouched: `moves_on`.
-- Definitions only. Assumes nothing.
use mathlib.Core.Path.{◌≡◌}
use mathlib.Core.Logic.{◌≢◌, ◌⊎◌}
use Prim.Native.Nat.{ℕ, ◌+◌, ◌-◌, ◌≤◌, ◌<◌}
use lib.Dec.{T}
use Rattle.pool.specs.Limits.{max_held}
use Rattle.pool.specs.State.{none, evicted, pinned, total, slot, page, pins, count, client, grant_frame}
use Rattle.pool.specs.Table.{entry_of, lookup, unused_entry}
use Rattle.pool.specs.Frames.{free_frame}
use Rattle.pool.specs.Grants.{grant_of}
use Rattle.pool.specs.Moves.{standing, with_own, with_found, with_victim, holding, works_as, works, opens, refused15, completes}
use Rattle.pool.specs.Apply.{free_after}
use Rattle.pool.specs.Stages.{raised, taking}
use Rattle.pool.specs.Calls.{begin_move}
use Rattle.pool.specs.declared.Pool.{Pool}
use Rattle.pool.specs.declared.Client.{Client}
use Rattle.pool.specs.declared.Move.{Move}
use Rattle.pool.specs.declared.Counted.{Counted}
use Rattle.pool.specs.declared.Counted.TheVariants.{Hit, Join, Admitted, Revived, Drop}
use Rattle.pool.specs.declared.GrantChange.TheVariants.{End}
use Rattle.pool.specs.declared.Write.{Write}
use Rattle.pool.specs.declared.Write.TheVariants.{Keep, PutSlot, PutPins, PutCount, PutEntry, PutHand, PutFree}
use Rattle.invariant.proofs.Reached.{one, mapped, victimless, filling, examining, Knows, WillUnmap}
use Rattle.invariant.proofs.StageTests.{Onward, MayRefuse}

-- a write of counters alone: the slots, the frames' pages and pins, and the table do not see it
pub data CountersOnly (p : Pool) : Write → Type 0 where
  keep : CountersOnly p Keep
  hand : {h : ℕ} → CountersOnly p (PutHand h)
  counts : {f x : ℕ} → x ≤ p.cap → CountersOnly p (PutCount f x)
  free : {x : ℕ} → x ≤ p.size → CountersOnly p (PutFree x)

pub record SameFrames (k n : Client) : Type 0 where
  pub page : n.page ≡ k.page
  pub own : n.own ≡ k.own
  pub found : n.found ≡ k.found
  pub held : n.held ≡ k.held

-- a client n that was k and examines a victim: the frame that it examined at that place, or the one that stands at its place now
abbrev pub Examines : Pool → Client → Client → Type 0
Examines p k n = ((n.victim ≡ k.victim) × (n.place ≡ k.place) × T (examining k.stage)) ⊎ (n.victim ≡ slot p n.place)

-- client k goes on to stage j as n
pub record MovesOn (p : Pool) (k n : Client) (j : ℕ) (w : Write) : Type 0 where
  pub same : SameFrames k n
  pub counters_only : CountersOnly p w
  pub stages : Onward k.stage j
  pub place_ok : n.place < p.size
  pub busy_ok : n.busy < p.size
  pub seen_ok : n.seen ≤ p.size
  pub victim_ok : n.victim ≢ none → n.victim < total p
  pub knows : Knows j p (standing n j)
  pub no_victim : T (victimless j) → n.victim ≡ none
  pub six_seen : j ≡ 6 → n.seen ≢ 0
  pub examines : T (examining j) → Examines p k n
  pub will_unmap : (f : ℕ) → f ≢ none → mapped p f ≢ 0 → WillUnmap p k f → WillUnmap p (standing n j) f
  pub fills : p.free + one (filling k.stage) ≡ free_after p.free w + one (filling j)

-- client k, which is to rest, is granted frame f
abbrev pub grants : Client → ℕ → Write → Counted → Move
grants k f w counted = opens k f w counted

module _ (p : Pool) (c : ℕ) where
  abbrev k : Client
  k = client p c

  -- its grant of page g ends, and its last takes that place
  abbrev pub released : ℕ → Move
  released g =
      let i = grant_of p c g in
      let f = grant_frame p c i in
      completes g (holding k (k.held - 1)) (End i (k.held - 1)) (PutPins f (pins p f - 1))

  pub data Edge : Move → Type 0 where
    moves_on : (n : Client) (j : ℕ) (w : Write) → MovesOn p k n j w → Edge (works n j w)
    -- 1, 18: the look-up found a frame
    found1 : k.stage ≡ 1 → lookup p k.page ≢ none → Edge (works (with_found k (lookup p k.page)) 2 Keep)
    found18 : k.stage ≡ 18 → lookup p k.page ≢ none → Edge (works (with_found k (lookup p k.page)) 19 Keep)
    -- 2: the found frame is evicted. 22: the page is mapped to another
    forgets2 : k.stage ≡ 2 → pins p k.found ≡ evicted → Edge (works (with_found k none) 4 Keep)
    forgets22 : k.stage ≡ 22 → lookup p k.page ≢ k.found → Edge (works (with_found k none) 23 Keep)
    -- 2, 19: the found frame is pinned
    pins2 : k.stage ≡ 2 → pins p k.found ≢ evicted → Edge (works k 3 (PutPins k.found (pins p k.found + 1)))
    pins19 : k.stage ≡ 19 → pins p k.found ≢ evicted → Edge (works k 20 (PutPins k.found (pins p k.found + 1)))
    -- 3, 21: and granted
    gets3 : k.stage ≡ 3 → Edge (grants k k.found (PutCount k.found (raised p.cap (count p k.found))) Hit)
    gets21 : k.stage ≡ 21 → Edge (grants k k.found (PutCount k.found (raised p.cap (count p k.found))) Join)
    takes : k.stage ≡ 4 → free_frame p ≢ none → Edge (taking k p.cap (free_frame p))
    -- 8, 15: the own frame is put into the slot
    fills : k.stage ≡ 8 → slot p k.place ≡ none → Edge (works k 9 (PutSlot k.place k.own))
    replaces : k.stage ≡ 15 → slot p k.place ≡ k.victim → Edge (works k 16 (PutSlot k.place k.own))
    -- 11, 12: the S-th busy visit
    refuses : MayRefuse k.stage → k.busy + 1 ≡ p.size → Edge (refused15 k)
    evicts14 : k.stage ≡ 14 → pins p k.victim ≡ pinned 0 → Edge (works k 15 (PutPins k.victim evicted))
    removes : k.stage ≡ 17 → lookup p (page p k.victim) ≡ k.victim
        → Edge (works_as (with_victim k none) Drop 18 (PutEntry (entry_of p (page p k.victim)) (page p k.victim) none))
    -- 18, 22: the page is mapped to the own frame, which is granted
    admits : k.stage ≡ 18 → lookup p k.page ≡ none → unused_entry p ≢ none → Edge (grants k k.own (PutEntry (unused_entry p) k.page k.own) Admitted)
    revives : k.stage ≡ 22 → lookup p k.page ≡ k.found → Edge (grants k k.own (PutEntry (entry_of p k.page) k.page k.own) Revived)
    -- 20, 23: the own frame is evicted
    evicts20 : k.stage ≡ 20 → Edge (works (with_own k none) 21 (PutPins k.own evicted))
    evicts23 : k.stage ≡ 23 → Edge (works (with_own k none) 4 (PutPins k.own evicted))
    begins : (g : ℕ) → k.stage ≡ 0 → k.held < max_held → grant_of p c g ≡ none → Edge (begin_move k g)
    releases : (g : ℕ) → k.stage ≡ 0 → grant_of p c g ≢ none → Edge (released g)
