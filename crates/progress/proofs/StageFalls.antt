-- The rank falls at every step of a reached pool that leads to another stage: one lemma for each stage, and where an edge does more than move its client
-- on, one for that edge, under the name of what it does. Assumes nothing.
use mathlib.Core.Path.{◌≡◌, refl, sym, ◌∙◌}
use mathlib.Core.Logic.{◌≢◌}
use mathlib.Core.Bool.{true, false}
use Prim.Native.Nat.{ℕ, ◌+◌, ◌-◌, ◌<◌, ◌%◌}
use native.Mathlib.Omega.{arith}
use native.Mathlib.Decide.{ℕ_discrete}
use lib.Dec.{T, eqb}
use borrow.Author.Tests.{eqb-true, eqb-false, eq-eqb, ne_eqb}
use Rattle.pool.specs.State.{none, evicted, pinned, total, slot, page, pins, count, client}
use Rattle.pool.specs.Table.{entry_of, lookup, unused_entry}
use Rattle.pool.specs.Frames.{free_frame}
use Rattle.pool.specs.Moves.{standing, with_own, with_victim, sweeping, works_as, works}
use Rattle.pool.specs.Stages.{around, next_slot, busy_visit, evict_own, taking, Stage, stages, no_stage, stage_move, stage1, stage2, stage3, stage4, stage5, stage6}
use Rattle.pool.specs.Stages.{stage7, stage8, stage9, stage10, stage11, stage12, stage13, stage14, stage15, stage16, stage17, stage18, stage19, stage20}
use Rattle.pool.specs.Stages.{stage21, stage22, stage23}
use Rattle.pool.specs.Apply.{slots_after, pins_after, counts_after, free_after, apply}
use Rattle.pool.specs.declared.Pool.{Pool}
use Rattle.pool.specs.declared.Move.{Move}
use Rattle.pool.specs.declared.Counted.TheVariants.{Drop}
use Rattle.pool.specs.declared.Write.TheVariants.{Keep, PutSlot, PutPins, PutCount, PutEntry, PutFree}
use Rattle.laws.specs.Choices.{by_test}
use Rattle.laws.specs.Each.{Each, fin, ◌also◌, each_in}
use Rattle.invariant.proofs.Reached.{mapped, VictimInSlot}
use Rattle.invariant.proofs.NeverFails.{know}
use Rattle.invariant.proofs.Facts.{own_pins, unpinned_mapped}
use Rattle.invariant.proofs.Searches.{free_found, unreferenced_means, lookup_found}
use Rattle.invariant.proofs.Table.{mapped_zero}
use Rattle.progress.proofs.Rank.{lap, toll, rank_at}
use Rattle.invariant.proofs.After.{count_here, pins_here, slot_kept}
use Rattle.progress.proofs.Weights.{lap_is, detour_is, anew_is}
use Rattle.progress.proofs.Clients.{plain, client_kept}
use Rattle.progress.proofs.Frames.{frame_lighter, frame_evicted}
use Rattle.progress.proofs.Writes.{Acting, actor, table_terms}
use Rattle.progress.proofs.Pays.{frames_kept, frames_one, frames_free, unseen, spoils}
use Rattle.progress.proofs.Way.{way_at_most, way_falls}
use Rattle.progress.proofs.Removal.{removed}
use Rattle.progress.proofs.Moves.{Falls, ends, lower, quiet, goes, pays, gives}

module _ {p : Pool} {c : ℕ} (act : Acting p c) where
  open actor act use {here, r, k, s, t}

  abbrev IsFalls : Move → Type 0
  IsFalls m = Falls p c m

  abbrev FallsAt : ℕ → Stage → Type 0
  FallsAt i f = (client p c).stage ≡ i → Falls p c (f p k)

  -- ---- 1 to 9

  step1 : FallsAt 1 (λ p k. stage1 k (lookup p k.page))
  unfolding stage1 rank_at
  step1 e = by_test IsFalls (λ _. goes act 1 e (omega arith)) (λ _. goes act 1 e (omega arith))

  -- a pin, at 2 or 19, spoils what the others have read of the frame's pins; the client's grant is near, and pays
  pin : (i j : ℕ) → (client p c).stage ≡ i → T (plain j) → k.found ≢ none → eqb (pins p k.found) evicted ≡ false
      → rank_at s t p j (standing k j) + toll s t < rank_at s t p i k → Falls p c (works k j (PutPins k.found (pins p k.found + 1)))
  pin i j e h f live own = pays act i 0 e tt h (frames_kept act _ (r.ranges.found_ok c f, (λ z. absurd (eqb-false _ _ live z)))) (omega (arith, own))

  step2 : FallsAt 2 (λ p k. stage2 k (pins p k.found))
  unfolding stage2 rank_at
  step2 e = by_test IsFalls (λ _. goes act 2 e (omega arith)) (λ z. pin 2 3 e tt (know p r c 2 e).0 z (omega arith))

  step3 : FallsAt 3 (λ p k. stage3 k p.cap (count p k.found))
  unfolding stage3
  step3 e = gives act _ _ _

  -- the frame that is taken is named by nobody, and weighs nothing
  take4 : (client p c).stage ≡ 4 → free_frame p ≢ none → Falls p c (taking k p.cap (free_frame p))
  unfolding rank_at
  take4 e z =
      let f = free_found p r.shape z in
      let nobody = unreferenced_means p (free_frame p) z f.1 in
      let m : Move = taking k p.cap (free_frame p) in
      lower (λ _. omega (
        arith,
        unseen act m 4 0 1 e (frames_kept act m (mapped_zero p (free_frame p) nobody.no_entry)) nobody.no_victim (nobody.no_victim c)
            (omega arith),
      ))

  step4 : FallsAt 4 (λ p k. stage4 k p.cap (free_frame p))
  unfolding stage4
  step4 e = by_test IsFalls (λ _. ends tt) (λ z. take4 e (eqb-false _ _ z))

  -- what 5 reads is not spoilt yet
  step5 : FallsAt 5 (λ p k. stage5 k p.free)
  unfolding stage5 rank_at
  step5 e = by_test IsFalls (λ _. goes act 5 e (omega arith)) (λ _. goes act 5 e (rw (eq-eqb p.free p.free refl) (omega arith)))

  -- the slot that is claimed pays for those who have read free
  claim6 : (client p c).stage ≡ 6 → p.free ≢ 0 → Falls p c (works k 7 (PutFree (p.free - 1)))
  unfolding rank_at
  claim6 e z = pays act 6 (toll s t) e tt tt (frames_free act _ refl z) (omega arith)

  -- free was changed: the detour pays for the way back
  retry6 : (client p c).stage ≡ 6 → eqb p.free k.seen ≡ false → Falls p c (works k 5 Keep)
  unfolding rank_at
  retry6 e z = goes act 6 e (rw z (omega (arith, detour_is s)))

  step6 : FallsAt 6 (λ p k. stage6 k p.free)
  unfolding stage6
  step6 e = by_test IsFalls (λ _. by_test IsFalls (λ _. ends tt) (λ z. claim6 e (eqb-false _ _ z))) (λ z. retry6 e z)

  step7 : FallsAt 7 (λ p k. stage7 k p.hand p.size)
  unfolding stage7 rank_at
  step7 e = goes act 7 e (omega (arith, way_at_most s p (p.hand % p.size)))

  -- a slot that is filled makes the way of others at 8 longer
  fill8 : (client p c).stage ≡ 8 → Falls p c (works k 9 (PutSlot k.place k.own))
  unfolding rank_at
  fill8 e = pays act 8 0 e tt tt (frames_kept act _ tt) (omega arith)

  step8 : FallsAt 8 (λ p k. stage8 k (slot p k.place) p.size)
  unfolding stage8 rank_at
  step8 e = by_test IsFalls (λ _. fill8 e) (λ z. goes act 8 e (omega (arith, way_falls p r c here e (eqb-false _ _ z))))

  step9 : FallsAt 9 (λ p k. stage9 k p.hand)
  unfolding stage9 rank_at
  step9 e = quiet act 9 e tt (λ _. tt) (omega arith)

  -- ---- 10 to 17

  step10 : FallsAt 10 (λ p k. stage10 k p.hand p.size)
  unfolding stage10 rank_at
  step10 e = goes act 10 e (omega arith)

  -- a busy visit more, of at most S
  visit : (i : ℕ) → (client p c).stage ≡ i
      → rank_at s t p 11 (standing (sweeping k k.start (around s k.place) (k.busy + 1)) 11) < rank_at s t p i k → Falls p c (busy_visit k s)
  unfolding busy_visit
  visit i e own = by_test IsFalls (λ _. ends tt) (λ _. goes act i e own)

  -- what 11 reads is not spoilt yet
  step11 : FallsAt 11 (λ p k. stage11 k (slot p k.place) p.size)
  unfolding stage11 rank_at
  step11 e =
      by_test IsFalls (λ _. visit 11 e (omega (arith, r.ranges.busy_ok c)))
      (λ _. goes act 11 e (rw (eq-eqb (slot p k.place) (slot p k.place) refl) (omega arith)))

  step12 : FallsAt 12 (λ p k. stage12 k (pins p k.victim) p.size)
  unfolding stage12 rank_at
  step12 e =
      let busy = r.ranges.busy_ok c in
      by_test IsFalls (λ _. goes act 12 e (omega (arith, busy)))
      (λ _. by_test IsFalls (λ z. goes act 12 e (rw z (omega (arith, busy)))) (λ _. visit 12 e (omega (arith, busy))))

  -- ---- the victim, at 13 and 14

  module _ (kn : VictimInSlot p k) where
    victim_here : k.victim < total p
    victim_here = r.ranges.victim_ok c kn.0

    -- without pins it is resident: it stands in a slot
    victim_resident : pins p k.victim ≡ pinned 0 → (pins p k.victim ≢ evicted) × (mapped p k.victim ≢ 0)
    victim_resident n =
        let live : pins p k.victim ≢ evicted = λ z. let y : ⊥ = omega (arith, n) in y in
        (live, unpinned_mapped p r k.victim kn.0 n (kn.1 live))

  -- its count comes to 0, or is still above: then the count pays for the lap, or, if the visit is spoilt, the detour does
  lower13 : (client p c).stage ≡ 13 → Falls p c (works k 14 (PutCount k.victim (count p k.victim - 1)))
  unfolding rank_at
  lower13 e = quiet act 13 e (victim_here (know p r c 13 e).1, omega arith) (λ _. tt) (omega arith)

  pass13 : (client p c).stage ≡ 13 → count p k.victim - 1 ≢ 0 → Falls p c (next_slot k s (PutCount k.victim (count p k.victim - 1)))
  unfolding rank_at counts_after
  pass13 e z = go (ℕ_discrete (pins p v) (pinned 0)) (ℕ_discrete (slot p k.place) v)
    where
      v : ℕ
      v = k.victim

      m : Move
      m = next_slot k s (PutCount v (count p v - 1))

      h : v < total p
      h = victim_here (know p r c 13 e).1

      go : Dec (pins p v ≡ pinned 0) → Dec (slot p k.place ≡ v) → Falls p c m
      go (no a) _ = quiet act 13 e (h, omega arith) (λ _. tt) (rw (ne_eqb (pins p v) (pinned 0) a) (omega (arith, detour_is s)))
      go (yes a) (no b) = quiet act 13 e (h, omega arith) (λ _. tt) (rw (eq-eqb (pins p v) (pinned 0) a, ne_eqb (slot p k.place) v b) (omega (arith, detour_is s)))
      go (yes a) (yes b) =
          let res = victim_resident (know p r c 13 e).1 a in
          let less = frame_lighter s t p (apply p c m) v res.0 res.1 (count_here p c m r.shape v (count p v - 1) refl h) z in
          lower (λ _. omega (arith, unseen act m 13 (lap s) 1 e (frames_one act m v (lap s) h less (h, omega arith)) (λ _. tt) tt (omega (arith, lap_is s))))

  step13 : FallsAt 13 (λ p k. stage13 k (count p k.victim) p.size)
  unfolding stage13
  step13 e = by_test IsFalls (λ _. lower13 e) (λ z. pass13 e (eqb-false _ _ z))

  -- an eviction spoils what the others have read of the victim's pins; the frame, which is resident no more, pays
  evict14 : (client p c).stage ≡ 14 → pins p k.victim ≡ pinned 0 → Falls p c (works k 15 (PutPins k.victim evicted))
  unfolding rank_at apply slots_after pins_after free_after
  evict14 e n =
      let v : ℕ = k.victim in
      let m : Move = works k 15 (PutPins v evicted) in
      let h : v < total p = victim_here (know p r c 14 e).1 in
      let res = victim_resident (know p r c 14 e).1 n in
      let gone = frame_evicted s t p (apply p c m) v res.0 res.1 (pins_here p c m r.shape v evicted refl h) in
      let mine = client_kept s t p (apply p c m) 15 (standing k 15) refl (slot_kept p c m refl) (λ z. absurd z)
      (table_terms act m m.write tt 15 (standing k 15)) in
      let test : eqb (pins p v) (pinned 0) ≡ true = eq-eqb (pins p v) (pinned 0) n in
      let before : rank_at s t p 15 (standing k 15) < rank_at s t p 14 k = rw test (omega arith) in
      lower (λ _. omega (arith, spoils act m 14 (toll s t) e tt (frames_one act m v (toll s t) h gone (h, (λ _. refl))) (omega (arith, mine, before))))

  -- it was pinned or evicted by another: the detour pays for the next slot
  pass14 : (client p c).stage ≡ 14 → eqb (pins p k.victim) (pinned 0) ≡ false → Falls p c (next_slot k s Keep)
  unfolding rank_at
  pass14 e z = goes act 14 e (rw z (omega (arith, detour_is s)))

  step14 : FallsAt 14 (λ p k. stage14 k (pins p k.victim) p.size)
  unfolding stage14
  step14 e = by_test IsFalls (λ z. evict14 e (eqb-true _ _ z)) (λ z. pass14 e z)

  -- a frame that is replaced spoils the visits of the others who examine it
  replace15 : (client p c).stage ≡ 15 → Falls p c (works k 16 (PutSlot k.place k.own))
  unfolding rank_at
  replace15 e = pays act 15 0 e tt tt (frames_kept act _ tt) (omega arith)

  pass15 : (client p c).stage ≡ 15 → eqb (slot p k.place) k.victim ≡ false → Falls p c (next_slot k s Keep)
  unfolding rank_at
  pass15 e z = goes act 15 e (rw z (omega (arith, detour_is s)))

  step15 : FallsAt 15 (λ p k. stage15 k (slot p k.place) p.size)
  unfolding stage15
  step15 e = by_test IsFalls (λ _. replace15 e) (λ z. pass15 e z)

  step16 : FallsAt 16 (λ p k. stage16 k p.hand p.size)
  unfolding stage16 rank_at
  step16 e = quiet act 16 e tt (λ _. tt) (omega arith)

  -- a removal sends others from 22 to 23: who wanted the page may have lost its entry now, but nobody finds it any more (`Removal`)
  remove17 : (client p c).stage ≡ 17 → lookup p (page p k.victim) ≡ k.victim
      → Falls p c (works_as (with_victim k none) Drop 18 (PutEntry (entry_of p (page p k.victim)) (page p k.victim) none))
  unfolding rank_at
  remove17 e l =
      let g : ℕ = page p k.victim in
      let m : Move = works_as (with_victim k none) Drop 18 (PutEntry (entry_of p g) g none) in
      let found = lookup_found p r.shape g (λ z. (know p r c 17 e).1.0 (sym l ∙ z)) in
      lower (λ next.
      let terms = removed p c m r next g refl (λ z. (know p r c 17 e).1.0 (sym l ∙ z)) in
      omega (arith, unseen act m 17 0 1 e (frames_kept act m (found.inside, refl)) (λ d j. terms j (client p d)) (λ j. terms j m.next) (omega arith)))

  step17 : FallsAt 17 (λ p k. let g = page p k.victim in stage17 k g (entry_of p g) (lookup p g))
  unfolding stage17 rank_at
  step17 e = by_test IsFalls (λ z. remove17 e (eqb-true _ _ z)) (λ _. goes act 17 e (omega arith))

  -- ---- 18 to 23

  -- what 18 finds is not lost yet
  step18 : FallsAt 18 (λ p k. stage18 k (lookup p k.page) (unused_entry p))
  unfolding stage18 rank_at
  step18 e =
      by_test IsFalls (λ _. by_test IsFalls (λ _. ends tt) (λ _. gives act _ _ _))
      (λ _. goes act 18 e (rw (eq-eqb (lookup p k.page) (lookup p k.page) refl) (omega arith)))

  step19 : FallsAt 19 (λ p k. stage19 k (pins p k.found))
  unfolding stage19 rank_at
  step19 e = by_test IsFalls (λ _. goes act 19 e (omega arith)) (λ z. pin 19 20 e tt (know p r c 19 e).1.0 z (omega arith))

  -- the own frame has one pin, so that nobody examines it with success
  give_up : (i j : ℕ) → (client p c).stage ≡ i → k.own ≢ none → rank_at s t p j (standing (with_own k none) j) < rank_at s t p i k
      → Falls p c (evict_own k (pins p k.own) j)
  unfolding evict_own
  give_up i j e z own =
      by_test IsFalls
      (λ _. quiet act i e (r.ranges.own_ok c z, (λ _. refl)) (λ _ n. let y : ⊥ = omega (arith, n, own_pins p r c z) in y) own)
      (λ _. goes act i e own)

  step20 : FallsAt 20 (λ p k. stage20 k (pins p k.own))
  unfolding stage20 rank_at
  step20 e = give_up 20 21 e (know p r c 20 e).0.0 (omega arith)

  step21 : FallsAt 21 (λ p k. stage21 k p.cap (count p k.found))
  unfolding stage21
  step21 e = gives act _ _ _

  -- the entry is gone: what that weighs pays for the start anew
  step22 : FallsAt 22 (λ p k. stage22 k (entry_of p k.page) (lookup p k.page))
  unfolding stage22 rank_at
  step22 e = by_test IsFalls (λ _. gives act _ _ _) (λ z. goes act 22 e (rw z (omega (arith, anew_is s t))))

  step23 : FallsAt 23 (λ p k. stage23 k (pins p k.own))
  unfolding stage23 rank_at
  step23 e = give_up 23 4 e (know p r c 23 e).0 (omega arith)

  -- ---- every step

  pub step_falls : (client p c).stage ≢ 0 → Falls p c (stage_move p k)
  unfolding stage_move
  step_falls z = each_in FallsAt no_stage stages steps k.stage (omega (arith, r.ranges.stage_ok c)) refl
    where
      steps : Each FallsAt 0 stages
      steps =
          (λ e. absurd (z e)) also
          step1 also step2 also step3 also step4 also step5 also step6 also step7 also step8 also step9 also step10 also step11 also step12 also
          step13 also step14 also step15 also step16 also step17 also step18 also step19 also step20 also step21 also step22 also step23 also fin
