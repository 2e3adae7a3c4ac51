-- Every call that is not turned down in a reached pool makes one of the moves of `Edges`: one lemma for each of the 23 stages, a case for each branch
-- of its definition. A branch that would be stuck is shut by a clause: a frame and an unused entry are there (`NeverFails`), free is not 0 at 6, an own
-- frame has pins 1, a working client has room for a grant. Assumes nothing.
use mathlib.Core.Path.{◌≡◌, refl, sym, ap, ◌∙◌}
use mathlib.Core.Logic.{◌≢◌, ◌⊎◌, inl, inr}
use mathlib.Core.Bool.{not}
use Prim.Native.Nat.{ℕ, suc, ◌+◌, ◌-◌, ◌≤◌, ◌<◌, ◌%◌}
use native.Mathlib.Nat.{mod-lt}
use native.Mathlib.Omega.{arith}
use lib.Dec.{T, eqb}
use borrow.Author.Tests.{eqb-true, eqb-false, lt-ltb, ltb-true, ltb-false}
use Rattle.pool.specs.Limits.{max_held}
use Rattle.pool.specs.State.{none, evicted, number_of_clients, slot, page, pins, count, client, grant_frame}
use Rattle.pool.specs.Table.{entry_of, lookup, unused_entry}
use Rattle.pool.specs.Frames.{free_frame}
use Rattle.pool.specs.Grants.{grant_of}
use Rattle.pool.specs.Moves.{standing, with_own, with_victim, with_seen, with_place, sweeping, works, granted}
use Rattle.pool.specs.Apply.{free_after}
use Rattle.pool.specs.Stages.{around, busy_visit, evict_own, Stage, stages, no_stage, stage_move, stage1, stage2, stage3, stage4, stage5, stage6, stage7, stage8}
use Rattle.pool.specs.Stages.{stage9, stage10, stage11, stage12, stage13, stage14, stage15, stage16, stage17, stage18, stage19, stage20, stage21, stage22}
use Rattle.pool.specs.Stages.{stage23}
use Rattle.pool.specs.Calls.{caller, refusal_at, refusal, release_move, move_of}
use Rattle.pool.specs.declared.Pool.{Pool}
use Rattle.pool.specs.declared.Client.{Client}
use Rattle.pool.specs.declared.Call.{Call}
use Rattle.pool.specs.declared.Call.TheVariants.{Begin, Step, Release}
use Rattle.pool.specs.declared.Move.{Move}
use Rattle.pool.specs.declared.Counted.{Counted}
use Rattle.pool.specs.declared.Write.{Write}
use Rattle.pool.specs.declared.Write.TheVariants.{Keep, PutPins, PutFree}
use Rattle.laws.specs.Choices.{by_test, chosen}
use Rattle.invariant.proofs.Reached.{Reached, Knows, WillUnmap, mapped, victimless, filling, examining}
use Rattle.laws.specs.Each.{Each, fin, ◌also◌, each_in}
use Rattle.invariant.proofs.Searches.{grant_of_found}
use Rattle.invariant.proofs.NeverFails.{mover, finds_some, finds_unused}
use Rattle.invariant.proofs.StageTests.{T_false, never, differ, imp_mp, onward, onward_means, keeps_victim, keeps_victim_means, unmaps_none, unmaps_none_lem}
use Rattle.invariant.proofs.StageTests.{MayRefuse}
use Rattle.invariant.proofs.Allowed.{allowed, may_begin, may_step, may_release}
use Rattle.invariant.proofs.Facts.{own_pins, grant_pinned, lookup_unmapped}
use Rattle.invariant.proofs.Edges.{CountersOnly, keep, hand, counts, free, SameFrames, grants, Edge, moves_on, found1, found18, forgets2, forgets22}
use Rattle.invariant.proofs.Edges.{pins2, pins19, gets3, gets21, takes, fills, replaces, refuses, evicts14, removes, admits, revives, evicts20, evicts23}
use Rattle.invariant.proofs.Edges.{begins, releases}

-- the slot after slot i
pub around_ok : (s i : ℕ) → 0 < s → around s i < s
unfolding around
around_ok s i h = by_test (λ (x : ℕ). x < s) (λ t. ltb-true _ _ t) (λ _. h)

pub around_is : (s i : ℕ) → i < s → ((suc i < s) × (around s i ≡ suc i)) ⊎ ((suc i ≡ s) × (around s i ≡ 0))
unfolding around
around_is s i h =
    by_test (λ (n : ℕ). ((suc i < s) × (n ≡ suc i)) ⊎ ((suc i ≡ s) × (n ≡ 0)))
    (λ t. inl (omega (arith, ltb-true (i + 1) s t), omega arith)) (λ t. inr (omega (arith, ltb-false (i + 1) s t), refl))

pub not_unmapping : (p : Pool) (k : Client) (i : ℕ) → k.stage ≡ i → T (unmaps_none i) → (f : ℕ) → WillUnmap p k f → ⊥
not_unmapping p k i e t f (_, inl l) = (unmaps_none_lem i t).0 (rw e at l)
not_unmapping p k i e t f (_, inr l) = (unmaps_none_lem i t).1 (sym e ∙ l.0)

module _ (p : Pool) (c : ℕ) (here : c < number_of_clients p) (r : Reached p) where
  open mover p r c use {me as k, known}

  abbrev IsEdge : Move → Type 0
  IsEdge m = Edge p c m

  abbrev EdgeAt : ℕ → Stage → Type 0
  EdgeAt i f = (client p c).stage ≡ i → Edge p c (f p k)

  same : SameFrames k k
  same = record { page = refl; own = refl; found = refl; held = refl }

  -- the client keeps its victim, and its place where that matters
  keeps_victim_lem : (n : Client) (i j : ℕ) (w : Write) → (client p c).stage ≡ i → SameFrames k n → n.victim ≡ k.victim → n.busy ≡ k.busy → n.place < p.size
      → n.seen ≤ p.size → (T (examining j) → n.place ≡ k.place) → CountersOnly p w → free_after p.free w ≡ p.free → T (onward i j) → T (keeps_victim i j)
      → ((f : ℕ) → f ≢ none → mapped p f ≢ 0 → WillUnmap p k f → WillUnmap p (standing n j) f) → Knows j p (standing n j) → IsEdge (works n j w)
  keeps_victim_lem n i j w e s v b pl sn at q fr t u lv kw =
      let h = keeps_victim_means i j u in
      moves_on n j w (record {
        same = s;
        counters_only = q;
        stages = rw e (onward_means i j t);
        place_ok = pl;
        busy_ok = rw b (r.ranges.busy_ok c);
        seen_ok = sn;
        victim_ok = λ z. rw v (r.ranges.victim_ok c (λ w. z (v ∙ w)));
        knows = kw;
        no_victim = λ x. v ∙ r.mapping.no_victim c (rw e (imp_mp (victimless j) (victimless i) h.from_victimless x));
        six_seen = λ w. absurd (h.not_six w);
        examines = λ x. inl (v, at x, rw e (imp_mp (examining j) (examining i) h.from_examining x));
        will_unmap = lv;
        fills = rw (e, fr, h.fills_alike) refl;
      })

  -- only the stage changes
  plain : (i j : ℕ) (w : Write) → (client p c).stage ≡ i → CountersOnly p w → free_after p.free w ≡ p.free → T (onward i j) → T (keeps_victim i j)
      → T (unmaps_none i) → Knows j p (standing k j) → IsEdge (works k j w)
  plain i j w e q fr t u a kw =
      keeps_victim_lem k i j w e same refl refl (r.ranges.place_ok c) (r.ranges.seen_ok c) (λ _. refl) q fr t u
      (λ f _ _ w. absurd (not_unmapping p k i e a f w)) kw

  -- a sweep looks at slot x next
  sweeps : (i start x n : ℕ) (w : Write) → (client p c).stage ≡ i → x < p.size → n < p.size → CountersOnly p w → free_after p.free w ≡ p.free
      → T (onward i 11) → T (not (filling i)) → ((f : ℕ) → WillUnmap p k f → ⊥) → k.own ≢ none → IsEdge (works (sweeping k start x n) 11 w)
  sweeps i start x n w e h b q fr t fl lv o =
      moves_on (sweeping k start x n) 11 w (record {
        same = record { page = refl; own = refl; found = refl; held = refl };
        counters_only = q;
        stages = rw e (onward_means i 11 t);
        place_ok = h;
        busy_ok = b;
        seen_ok = r.ranges.seen_ok c;
        victim_ok = λ z. absurd (z refl);
        knows = o;
        no_victim = λ _. refl;
        six_seen = λ w. absurd (differ 11 6 tt w);
        examines = never;
        will_unmap = λ f _ _ l. absurd (lv f l);
        fills = rw (e, fr, T_false (filling i) fl) refl;
      })

  some_slots : 0 < p.size
  some_slots = r.shape.size_low

  step1 : EdgeAt 1 (λ p k. stage1 k (lookup p k.page))
  unfolding stage1 free_after
  step1 e = by_test IsEdge (λ _. plain 1 4 Keep e keep refl tt tt tt tt) (λ t. found1 e (eqb-false _ _ t))

  step2 : EdgeAt 2 (λ p k. stage2 k (pins p k.found))
  unfolding stage2
  step2 e = by_test IsEdge (λ t. forgets2 e (eqb-true _ _ t)) (λ t. pins2 e (eqb-false _ _ t))

  -- a working client has room for a grant
  gets : (i f : ℕ) (w : Write) (u : Counted) → (client p c).stage ≡ i → T (not (eqb i 0)) → IsEdge (grants k f w u) → IsEdge (granted k f w u)
  unfolding granted
  gets i f w u e t h = rw (chosen _ _ _ (lt-ltb k.held max_held (omega (arith, r.ranges.working_held c (λ z. differ i 0 t (sym e ∙ z)))))) h

  step3 : EdgeAt 3 (λ p k. stage3 k p.cap (count p k.found))
  unfolding stage3
  step3 e = gets 3 _ _ _ e tt (gets3 e)

  step4 : EdgeAt 4 (λ p k. stage4 k p.cap (free_frame p))
  unfolding stage4
  step4 e = by_test IsEdge (λ t. absurd (finds_some p r c here e (eqb-true _ _ t))) (λ t. takes e (eqb-false _ _ t))

  step5 : EdgeAt 5 (λ p k. stage5 k p.free)
  unfolding stage5 free_after
  step5 e =
      by_test IsEdge (λ _. plain 5 10 Keep e keep refl tt tt tt (known 5 e))
      (λ t. moves_on (with_seen k p.free) 6 Keep (record {
        same = record { page = refl; own = refl; found = refl; held = refl };
        counters_only = keep;
        stages = rw e (onward_means 5 6 tt);
        place_ok = r.ranges.place_ok c;
        busy_ok = r.ranges.busy_ok c;
        seen_ok = r.ranges.free_ok;
        victim_ok = r.ranges.victim_ok c;
        knows = known 5 e;
        no_victim = λ _. r.mapping.no_victim c (rw e tt);
        six_seen = λ _. eqb-false _ _ t;
        examines = never;
        will_unmap = λ f _ _ w. absurd (not_unmapping p k 5 e tt f w);
        fills = rw e refl;
      }))

  -- 6 takes one of the free slots, which are some
  step6 : EdgeAt 6 (λ p k. stage6 k p.free)
  unfolding stage6 free_after
  step6 e =
      by_test IsEdge
      (λ t. let z : p.free ≢ 0 = λ w. r.evictions.six_seen c e (sym (eqb-true _ _ t) ∙ w) in by_test IsEdge (λ u. absurd (z (eqb-true _ _ u)))
      (λ _. moves_on k 7 (PutFree (p.free - 1)) (record {
        same = same;
        counters_only = free (omega (arith, r.ranges.free_ok));
        stages = rw e (onward_means 6 7 tt);
        place_ok = r.ranges.place_ok c;
        busy_ok = r.ranges.busy_ok c;
        seen_ok = r.ranges.seen_ok c;
        victim_ok = r.ranges.victim_ok c;
        knows = known 6 e;
        no_victim = λ _. r.mapping.no_victim c (rw e tt);
        six_seen = λ w. absurd (differ 7 6 tt w);
        examines = never;
        will_unmap = λ f _ _ w. absurd (not_unmapping p k 6 e tt f w);
        fills = rw e (omega arith);
      })))
      (λ _. plain 6 5 Keep e keep refl tt tt tt (known 6 e))

  step7 : EdgeAt 7 (λ p k. stage7 k p.hand p.size)
  unfolding stage7 free_after
  step7 e =
      keeps_victim_lem (with_place k (p.hand % p.size)) 7 8 Keep e (record { page = refl; own = refl; found = refl; held = refl }) refl refl
      (mod-lt p.hand some_slots) (r.ranges.seen_ok c) never keep refl tt tt (λ f _ _ w. absurd (not_unmapping p k 7 e tt f w)) (known 7 e)

  step8 : EdgeAt 8 (λ p k. stage8 k (slot p k.place) p.size)
  unfolding stage8 free_after
  step8 e =
      by_test IsEdge (λ t. fills e (eqb-true _ _ t))
      (λ _. keeps_victim_lem (with_place k (around p.size k.place)) 8 8 Keep e (record { page = refl; own = refl; found = refl; held = refl }) refl refl
      (around_ok _ _ some_slots)
      (r.ranges.seen_ok c) never keep refl tt tt (λ f _ _ w. absurd (not_unmapping p k 8 e tt f w)) (known 8 e))

  step9 : EdgeAt 9 (λ p k. stage9 k p.hand)
  unfolding stage9 free_after
  step9 e = plain 9 18 _ e hand refl tt tt tt (known 9 e)

  step10 : EdgeAt 10 (λ p k. stage10 k p.hand p.size)
  unfolding stage10 free_after
  step10 e = sweeps 10 p.hand (p.hand % p.size) 0 Keep e (mod-lt p.hand some_slots) some_slots keep refl tt tt (not_unmapping p k 10 e tt) (known 10 e)

  -- the sweep goes on, with no entry to remove
  next : (i n : ℕ) (w : Write) → (client p c).stage ≡ i → n < p.size → CountersOnly p w → free_after p.free w ≡ p.free → T (onward i 11)
      → T (not (filling i)) → T (unmaps_none i) → k.own ≢ none → IsEdge (works (sweeping k k.start (around p.size k.place) n) 11 w)
  next i n w e h q fr t fl a o = sweeps i k.start _ n w e (around_ok _ _ some_slots) h q fr t fl (not_unmapping p k i e a) o

  may_refuse11 : MayRefuse 11
  may_refuse11 = record { is_unplaced = tt; no_pin = refl; no_fill = refl; no_unmap = tt }

  may_refuse12 : MayRefuse 12
  may_refuse12 = record { is_unplaced = tt; no_pin = refl; no_fill = refl; no_unmap = tt }

  visit : (i : ℕ) → (client p c).stage ≡ i → T (onward i 11) → T (unmaps_none i) → T (not (filling i)) → MayRefuse i → k.own ≢ none
      → IsEdge (busy_visit k p.size)
  unfolding busy_visit free_after
  visit i e t a fl u o =
      by_test IsEdge (λ t. refuses (rw e u) (eqb-true _ _ t))
      (λ v. let z : k.busy + 1 ≢ p.size = eqb-false _ _ v in let b = r.ranges.busy_ok c in next i (k.busy + 1) Keep e (omega arith) keep refl t fl a o)

  step11 : EdgeAt 11 (λ p k. stage11 k (slot p k.place) p.size)
  unfolding stage11 free_after
  step11 e =
      by_test IsEdge (λ _. visit 11 e tt tt tt may_refuse11 (known 11 e))
      (λ t. moves_on (with_victim k (slot p k.place)) 12 Keep (record {
        same = record { page = refl; own = refl; found = refl; held = refl };
        counters_only = keep;
        stages = rw e (onward_means 11 12 tt);
        place_ok = r.ranges.place_ok c;
        busy_ok = r.ranges.busy_ok c;
        seen_ok = r.ranges.seen_ok c;
        victim_ok = r.ranges.slot_ok k.place;
        knows = (known 11 e, (eqb-false _ _ t, λ _. (k.place, refl)));
        no_victim = never;
        six_seen = λ w. absurd (differ 12 6 tt w);
        examines = λ _. inr refl;
        will_unmap = λ f _ _ w. absurd (not_unmapping p k 11 e tt f w);
        fills = rw e refl;
      }))

  step12 : EdgeAt 12 (λ p k. stage12 k (pins p k.victim) p.size)
  unfolding stage12 free_after
  step12 e =
      let h = known 12 e in
      by_test IsEdge (λ t. plain 12 15 Keep e keep refl tt tt tt (h.0, (h.1.0, eqb-true _ _ t)))
      (λ _. by_test IsEdge (λ _. plain 12 13 Keep e keep refl tt tt tt h) (λ _. visit 12 e tt tt tt may_refuse12 h.0))

  step13 : EdgeAt 13 (λ p k. stage13 k (count p k.victim) p.size)
  unfolding stage13 free_after
  step13 e =
      let h = r.ranges.count_ok k.victim in
      by_test IsEdge (λ _. plain 13 14 _ e (counts (omega arith)) refl tt tt tt (known 13 e))
      (λ _. next 13 0 _ e some_slots (counts (omega arith)) refl tt tt tt (known 13 e).0)

  step14 : EdgeAt 14 (λ p k. stage14 k (pins p k.victim) p.size)
  unfolding stage14 free_after
  step14 e = by_test IsEdge (λ t. evicts14 e (eqb-true _ _ t)) (λ _. next 14 0 Keep e some_slots keep refl tt tt tt (known 14 e).0)

  -- 15 goes on where the slot names another frame: no entry is to be removed
  step15 : EdgeAt 15 (λ p k. stage15 k (slot p k.place) p.size)
  unfolding stage15 free_after
  step15 e =
      by_test IsEdge (λ t. replaces e (eqb-true _ _ t))
      (λ t. sweeps 15 k.start _ 0 Keep e (around_ok _ _ some_slots) some_slots keep refl tt tt (moved (eqb-false _ _ t)) (known 15 e).0)
    where
      moved : slot p k.place ≢ k.victim → (f : ℕ) → WillUnmap p k f → ⊥
      moved n f (v, inl l) = rw e at l
      moved n f (v, inr l) = n (l.1 ∙ sym v)

  step16 : EdgeAt 16 (λ p k. stage16 k p.hand p.size)
  unfolding stage16 free_after
  step16 e =
      keeps_victim_lem k 16 17 _ e same refl refl (r.ranges.place_ok c) (r.ranges.seen_ok c) never hand refl tt tt (λ f _ _ w. (w.0, inl tt)) (known 16 e)

  step17 : EdgeAt 17 (λ p k. let g = page p k.victim in stage17 k g (entry_of p g) (lookup p g))
  unfolding stage17 free_after
  step17 e =
      by_test IsEdge (λ t. removes e (eqb-true _ _ t))
      (λ t. moves_on (with_victim k none) 18 Keep (record {
        same = record { page = refl; own = refl; found = refl; held = refl };
        counters_only = keep;
        stages = rw e (onward_means 17 18 tt);
        place_ok = r.ranges.place_ok c;
        busy_ok = r.ranges.busy_ok c;
        seen_ok = r.ranges.seen_ok c;
        victim_ok = λ z. absurd (z refl);
        knows = (known 17 e).0;
        no_victim = λ _. refl;
        six_seen = λ w. absurd (differ 18 6 tt w);
        examines = never;
        will_unmap = λ f z n w. absurd (n (ap (mapped p) (sym w.0) ∙ lookup_unmapped p r k.victim (known 17 e).1.0 (eqb-false _ _ t)));
        fills = rw e refl;
      }))

  step18 : EdgeAt 18 (λ p k. stage18 k (lookup p k.page) (unused_entry p))
  unfolding stage18
  step18 e =
      by_test IsEdge
      (λ t. by_test IsEdge (λ u. absurd (finds_unused p r c (known 18 e).0 (eqb-true _ _ u)))
      (λ u. gets 18 _ _ _ e tt (admits e (eqb-true _ _ t) (eqb-false _ _ u))))
      (λ t. found18 e (eqb-false _ _ t))

  step19 : EdgeAt 19 (λ p k. stage19 k (pins p k.found))
  unfolding stage19 free_after
  step19 e =
      let h = known 19 e in
      by_test IsEdge (λ t. plain 19 22 Keep e keep refl tt tt tt (h.0, (h.1.0, eqb-true _ _ t))) (λ t. pins19 e (eqb-false _ _ t))

  -- an own frame has pins 1
  evict : (j : ℕ) → k.own ≢ none → IsEdge (works (with_own k none) j (PutPins k.own evicted)) → IsEdge (evict_own k (pins p k.own) j)
  unfolding evict_own
  evict j z h = by_test IsEdge (λ _. h) (λ t. absurd (eqb-false _ _ t (own_pins p r c z)))

  step20 : EdgeAt 20 (λ p k. stage20 k (pins p k.own))
  unfolding stage20
  step20 e = evict 21 (known 20 e).0.0 (evicts20 e)

  step21 : EdgeAt 21 (λ p k. stage21 k p.cap (count p k.found))
  unfolding stage21
  step21 e = gets 21 _ _ _ e tt (gets21 e)

  step22 : EdgeAt 22 (λ p k. stage22 k (entry_of p k.page) (lookup p k.page))
  unfolding stage22
  step22 e = by_test IsEdge (λ t. gets 22 _ _ _ e tt (revives e (eqb-true _ _ t))) (λ t. forgets22 e (eqb-false _ _ t))

  step23 : EdgeAt 23 (λ p k. stage23 k (pins p k.own))
  unfolding stage23
  step23 e = evict 4 (known 23 e).0 (evicts23 e)

  -- ---- each call

  step_edge : (client p c).stage ≢ 0 → Edge p c (stage_move p k)
  unfolding stage_move
  step_edge z = each_in EdgeAt no_stage stages steps k.stage (omega (arith, r.ranges.stage_ok c)) refl
    where
      steps : Each EdgeAt 0 stages
      steps =
          (λ e. absurd (z e)) also
          step1 also step2 also step3 also step4 also step5 also step6 also step7 also step8 also step9 also step10 also step11 also step12 also
          step13 also step14 also step15 also step16 also step17 also step18 also step19 also step20 also step21 also step22 also step23 also fin

  release_edge : (g : ℕ) → (client p c).stage ≡ 0 → grant_of p c g ≢ none → Edge p c (move_of p (Release c g))
  unfolding move_of release_move
  release_edge g e z =
      let i : ℕ = grant_of p c g in
      let f : grant_frame p c i ≢ none = r.mapping.grant_named c i (grant_of_found p c g z).0 in
      let two = grant_pinned p r c i f in
      by_test IsEdge (λ t. let x : pins p (grant_frame p c i) ≡ evicted = eqb-true _ _ t in let y : ⊥ = omega arith in absurd y) (λ _. releases g e z)

-- a call that nothing turns down is one of a client of the pool, and makes such a move
pub call_edge : (p : Pool) (x : Call) → Reached p → refusal p x ≡ 0 → (caller x < number_of_clients p) × Edge p (caller x) (move_of p x)
unfolding caller move_of
call_edge p x r e = let a = allowed p x e in (a.here, made x a.here a.may)
  where
    made : (x : Call) → caller x < number_of_clients p → refusal_at p (client p (caller x)) x ≡ 0 → Edge p (caller x) (move_of p x)
    made (Begin c g) h e = let a = may_begin p (client p c) c g e in begins g a.0 a.1 a.2
    made (Step c) h e = step_edge p c h r (may_step p (client p c) c e)
    made (Release c g) h e = let a = may_release p (client p c) c g e in release_edge p c h r g a.0 a.1
