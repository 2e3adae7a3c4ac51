-- A client that is stepped while all others rest: which move each of its steps is, where the test of its stage is known. A stage's stuck branch is
-- never taken, as 8 is never answered. Assumes nothing.
use mathlib.Core.Path.{◌≡◌, refl, sym, ap, subst, ◌∙◌}
use mathlib.Core.Logic.{◌≢◌}
use Prim.Native.Nat.{ℕ, suc, ◌+◌, ◌-◌, ◌≤◌, ◌<◌, ◌%◌}
use native.Mathlib.Omega.{arith}
use lib.Dec.{eqb}
use lib.ListN.{get_or}
use borrow.Author.Tests.{ne_eqb, eq-eqb, lt-ltb}
use Rattle.pool.specs.Limits.{max_held}
use Rattle.pool.specs.Choose.{choose}
use Rattle.pool.specs.Answers.{refusal_of}
use Rattle.pool.specs.State.{none, evicted, pinned, number_of_clients, slot, page, pins, count, client}
use Rattle.pool.specs.Table.{lookup, entry_of, unused_entry}
use Rattle.pool.specs.Frames.{free_frame}
use Rattle.pool.specs.Moves.{with_found, with_victim, with_seen, with_place, sweeping, works, stuck, granted, refused15}
use Rattle.pool.specs.Apply.{apply}
use Rattle.pool.specs.Stages.{around, advanced, growth, raised, taking, next_slot, busy_visit, no_stage, stages, stage_move, stage1, stage2, stage3, stage4, stage5, stage6}
use Rattle.pool.specs.Stages.{stage7, stage8, stage9, stage10, stage11, stage12, stage13, stage14, stage15, stage16, stage17, stage18}
use Rattle.pool.specs.Calls.{caller, refusal_at, refusal, begin_move, move_of, call_of}
use Rattle.pool.specs.declared.Pool.{Pool}
use Rattle.pool.specs.declared.Client.{Client}
use Rattle.pool.specs.declared.Move.{Move}
use Rattle.pool.specs.declared.Call.TheVariants.{Begin, Step}
use Rattle.pool.specs.declared.Answer.TheVariants.{Done}
use Rattle.pool.specs.declared.Counted.{Counted}
use Rattle.pool.specs.declared.Counted.TheVariants.{Nothing}
use Rattle.pool.specs.declared.Write.{Write}
use Rattle.pool.specs.declared.Write.TheVariants.{Keep, PutSlot, PutPins, PutCount, PutEntry, PutHand, PutFree}
use Rattle.laws.specs.Choices.{chosen, passed}
use Rattle.invariant.proofs.Reached.{Reached}
use Rattle.invariant.proofs.After.{client_same, client_other}
use Rattle.invariant.proofs.Valid.{valid_reached}
use Rattle.invariant.proofs.Allowed.{Allowed, allowed, may_begin}
use Rattle.invariant.proofs.Edges.{grants}
use Rattle.invariant.proofs.Calls.{outcome_of, never_stuck, call_moves, reached_call}
use Rattle.guarantee.proofs.TurnedDown.{same_answer, same_pool, same_stage, other_answer, TurnedOrMove, turned, one_move, turned_or_move}

-- a step of a working client is not turned down
pub step_allowed : (p : Pool) (b : ℕ) → Reached p → b < number_of_clients p → (client p b).stage ≢ 0 → refusal p (Step b) ≡ 0
unfolding caller refusal refusal_at
step_allowed p b r h z = chosen _ _ _ (valid_reached p r) ∙ (chosen _ _ _ (lt-ltb b (number_of_clients p) h) ∙ passed _ _ _ (ne_eqb _ 0 z))

-- ---- a client alone

-- client b stands at stage i and wants g, and all others rest
pub record AloneAt (p : Pool) (b g i : ℕ) : Type 0 where
  pub reached : Reached p
  pub here : b < number_of_clients p
  pub others_rest : (c : ℕ) → c ≢ b → (client p c).stage ≡ 0
  pub stage : (client p b).stage ≡ i
  pub page : (client p b).page ≡ g

-- its step is the move m, but for what that counts
pub record StepIs (p : Pool) (b : ℕ) (m : Move) : Type 0 where
  pub answer_is : (call_of p (Step b)).answer ≡ m.answer
  pub pool_is : (call_of p (Step b)).pool ≡ apply p b m

abbrev pub uncounted : Move → Move
uncounted m = record { next = m.next; grants = m.grants; write = m.write; answer = m.answer; counted = Nothing }

module _ {p : Pool} {b g i : ℕ} (on : AloneAt p b g (suc i)) where
  stage_is : stage_move p (client p b) ≡ get_or stages (suc i) no_stage p (client p b)
  unfolding stage_move
  stage_is = ap (λ (x : ℕ). get_or stages x no_stage p (client p b)) on.stage

  allows : refusal p (Step b) ≡ 0
  allows = step_allowed p b on.reached on.here (λ z. let q : suc i ≡ 0 = sym on.stage ∙ z in omega arith)

  -- where the stage comes to m, the step is m
  step_is : {m : Move} → get_or stages (suc i) no_stage p (client p b) ≡ m → StepIs p b (uncounted m)
  unfolding move_of caller apply
  step_is e =
      let w = call_moves p (Step b) on.reached allows ∙ ap (outcome_of p b) (stage_is ∙ e) in record { answer_is = same_answer w; pool_is = same_pool w }

  -- a stuck branch is not taken
  not_stuck : (n v : ℕ) {m : Move} → get_or stages (suc i) no_stage p (client p b) ≡ choose (eqb n v) (stuck (client p b)) m
      → get_or stages (suc i) no_stage p (client p b) ≡ m
  unfolding move_of refusal_of
  not_stuck n v e =
      let other : n ≢ v = λ q.
      never_stuck p (Step b) on.reached allows (ap (λ (m : Move). refusal_of m.answer) (stage_is ∙ (e ∙ chosen _ _ _ (eq-eqb n v q)))) in
      e ∙ passed _ _ _ (ne_eqb n v other)

-- ---- the pool after the step

module _ {p : Pool} {b : ℕ} {m : Move} (w : StepIs p b m) where
  -- what holds of the move's pool and its client holds after the step
  pub after_step : Reached p → b < number_of_clients p → (P : Pool → Client → Type 0) → P (apply p b m) m.next
      → P (call_of p (Step b)).pool (client (call_of p (Step b)).pool b)
  after_step r h P x =
      subst (λ (q : Pool). P q (client q b)) (sym w.pool_is)
      (subst (P (apply p b m)) (sym (client_same p b m r.shape h)) x)

  pub alone_next : {g i : ℕ} (j : ℕ) → AloneAt p b g i → m.next.stage ≡ j → m.next.page ≡ (client p b).page → AloneAt (call_of p (Step b)).pool b g j
  unfolding apply
  alone_next {g} j on s e =
      record {
        reached = reached_call p (Step b) on.reached;
        here = after_step on.reached on.here (λ q _. b < number_of_clients q) on.here;
        others_rest = after_step on.reached on.here (λ q _. (c : ℕ) → c ≢ b → (client q c).stage ≡ 0)
            (λ c z. same_stage (client_other p b m c z) ∙ on.others_rest c z);
        stage = after_step on.reached on.here (λ _ k. k.stage ≡ j) s;
        page = after_step on.reached on.here (λ _ k. k.page ≡ g) (e ∙ on.page);
      }

-- ---- the pool after a begin that is done

module _ (p : Pool) (b g : ℕ) (done : (call_of p (Begin b g)).answer ≡ Done g) where
  begun : Allowed p (Begin b g) × ((call_of p (Begin b g)).pool ≡ apply p b (begin_move (client p b) g))
  unfolding caller move_of
  begun = go (turned_or_move p (Begin b g))
    where
      go : TurnedOrMove p (Begin b g) (call_of p (Begin b g)) → Allowed p (Begin b g) × ((call_of p (Begin b g)).pool ≡ apply p b (begin_move (client p b) g))
      go (turned n _ q) = other_answer (sym (same_answer q) ∙ done) tt
      go (one_move r _ q) = (allowed p (Begin b g) r, same_pool q)

  -- what holds of the move's pool holds after it
  pub begun_is : (P : Pool → Type 0) → P (apply p b (begin_move (client p b) g)) → P (call_of p (Begin b g)).pool
  begun_is P x = subst P (sym begun.1) x

  pub begun_rests : (client p b).stage ≡ 0
  unfolding caller
  begun_rests = (may_begin p (client p b) b g begun.0.may).0

  pub begun_alone : Reached p → ((c : ℕ) → c ≢ b → (client p c).stage ≡ 0) → AloneAt (call_of p (Begin b g)).pool b g 1
  unfolding apply caller
  begun_alone r rest =
      record {
        reached = reached_call p (Begin b g) r;
        here = begun_is (λ q. b < number_of_clients q) begun.0.here;
        others_rest = begun_is (λ q. (c : ℕ) → c ≢ b → (client q c).stage ≡ 0)
            (λ c z. same_stage (client_other p b m c z) ∙ rest c z);
        stage = begun_is (λ q. (client q b).stage ≡ 1) (same_stage mine);
        page = begun_is (λ q. (client q b).page ≡ g) (ap (λ (k : Client). k.page) mine);
      }
    where
      m : Move
      m = begin_move (client p b) g

      mine : client (apply p b m) b ≡ m.next
      mine = client_same p b m r.shape begun.0.here

-- ---- the steps, one by one

-- a working client has room for a grant
granted_is : {p : Pool} {b g i : ℕ} → AloneAt p b g (suc i) → (f : ℕ) (w : Write) (u : Counted) → granted (client p b) f w u ≡ grants (client p b) f w u
unfolding granted
granted_is {p} {b} {g} {i} on f w u =
    let few = on.reached.ranges.working_held b (λ z. let q : suc i ≡ 0 = sym on.stage ∙ z in omega arith) in
    chosen _ _ _ (lt-ltb (client p b).held max_held (omega arith))

module _ (p : Pool) (b g : ℕ) where
  abbrev k : Client
  k = client p b

  abbrev f : ℕ
  f = k.found

  abbrev v : ℕ
  v = k.victim

  pub move1 : AloneAt p b g 1 → lookup p g ≡ none → StepIs p b (works k 4 Keep)
  unfolding stage1
  move1 on a = step_is on (chosen _ _ _ (eq-eqb _ none (ap (lookup p) on.page ∙ a)))

  pub move1_found : AloneAt p b g 1 → lookup p g ≢ none → StepIs p b (works (with_found k (lookup p k.page)) 2 Keep)
  unfolding stage1
  move1_found on z = step_is on (passed _ _ _ (ne_eqb _ none (λ e. z (ap (lookup p) (sym on.page) ∙ e))))

  pub move2 : AloneAt p b g 2 → pins p f ≢ evicted → StepIs p b (works k 3 (PutPins f (pins p f + 1)))
  unfolding stage2
  move2 on z = step_is on (passed _ _ _ (ne_eqb _ evicted z))

  pub move3 : AloneAt p b g 3 → StepIs p b (grants k f (PutCount f (raised p.cap (count p f))) Nothing)
  unfolding stage3
  move3 on = step_is on (granted_is on _ _ _)

  pub move4 : AloneAt p b g 4 → StepIs p b (taking k p.cap (free_frame p))
  unfolding stage4
  move4 on = step_is on (not_stuck on (free_frame p) none refl)

  pub move5 : AloneAt p b g 5 → p.free ≢ 0 → StepIs p b (works (with_seen k p.free) 6 Keep)
  unfolding stage5
  move5 on z = step_is on (passed _ _ _ (ne_eqb _ 0 z))

  pub move5_none : AloneAt p b g 5 → p.free ≡ 0 → StepIs p b (works k 10 Keep)
  unfolding stage5
  move5_none on e = step_is on (chosen _ _ _ (eq-eqb _ 0 e))

  pub move6 : AloneAt p b g 6 → p.free ≡ k.seen → StepIs p b (works k 7 (PutFree (p.free - 1)))
  unfolding stage6
  move6 on e = step_is on (not_stuck on p.free 0 (chosen _ _ _ (eq-eqb _ k.seen e)))

  pub move7 : AloneAt p b g 7 → StepIs p b (works (with_place k (p.hand % p.size)) 8 Keep)
  unfolding stage7
  move7 on = step_is on refl

  pub move8 : AloneAt p b g 8 → slot p k.place ≡ none → StepIs p b (works k 9 (PutSlot k.place k.own))
  unfolding stage8
  move8 on e = step_is on (chosen _ _ _ (eq-eqb _ none e))

  pub move8_next : AloneAt p b g 8 → slot p k.place ≢ none → StepIs p b (works (with_place k (around p.size k.place)) 8 Keep)
  unfolding stage8
  move8_next on z = step_is on (passed _ _ _ (ne_eqb _ none z))

  pub move9 : AloneAt p b g 9 → StepIs p b (works k 18 (PutHand (advanced p.hand 1)))
  unfolding stage9
  move9 on = step_is on refl

  pub move10 : AloneAt p b g 10 → StepIs p b (works (sweeping k p.hand (p.hand % p.size) 0) 11 Keep)
  unfolding stage10
  move10 on = step_is on refl

  pub move11 : AloneAt p b g 11 → slot p k.place ≢ none → StepIs p b (works (with_victim k (slot p k.place)) 12 Keep)
  unfolding stage11
  move11 on z = step_is on (passed _ _ _ (ne_eqb _ none z))

  pub move12_evicted : AloneAt p b g 12 → pins p v ≡ evicted → StepIs p b (works k 15 Keep)
  unfolding stage12
  move12_evicted on e = step_is on (chosen _ _ _ (eq-eqb _ evicted e))

  pub move12_unpinned : AloneAt p b g 12 → pins p v ≡ pinned 0 → StepIs p b (works k 13 Keep)
  unfolding stage12
  move12_unpinned on e = step_is on (passed _ _ _ (ne_eqb (pins p v) evicted (λ q. omega arith)) ∙ chosen _ _ _ (eq-eqb _ (pinned 0) e))

  -- a pinned victim: a busy visit
  visit : AloneAt p b g 12 → pinned 1 ≤ pins p v → get_or stages 12 no_stage p k ≡ busy_visit k p.size
  unfolding stage12
  visit on h = passed _ _ _ (ne_eqb (pins p v) evicted (λ q. omega arith)) ∙ passed _ _ _ (ne_eqb (pins p v) (pinned 0) (λ q. omega arith))

  pub move12_busy : AloneAt p b g 12 → pinned 1 ≤ pins p v → k.busy + 1 ≢ p.size
      → StepIs p b (works (sweeping k k.start (around p.size k.place) (k.busy + 1)) 11 Keep)
  unfolding busy_visit
  move12_busy on h z = step_is on (visit on h ∙ passed _ _ _ (ne_eqb _ p.size z))

  pub move12_refused : AloneAt p b g 12 → pinned 1 ≤ pins p v → k.busy + 1 ≡ p.size → StepIs p b (uncounted (refused15 k))
  unfolding busy_visit
  move12_refused on h e = step_is on (visit on h ∙ chosen _ _ _ (eq-eqb _ p.size e))

  pub move13_zero : AloneAt p b g 13 → count p v - 1 ≡ 0 → StepIs p b (works k 14 (PutCount v (count p v - 1)))
  unfolding stage13
  move13_zero on e = step_is on (chosen _ _ _ (eq-eqb _ 0 e))

  pub move13_more : AloneAt p b g 13 → count p v - 1 ≢ 0 → StepIs p b (next_slot k p.size (PutCount v (count p v - 1)))
  unfolding stage13
  move13_more on z = step_is on (passed _ _ _ (ne_eqb _ 0 z))

  pub move14 : AloneAt p b g 14 → pins p v ≡ pinned 0 → StepIs p b (works k 15 (PutPins v evicted))
  unfolding stage14
  move14 on e = step_is on (chosen _ _ _ (eq-eqb _ (pinned 0) e))

  pub move15 : AloneAt p b g 15 → slot p k.place ≡ v → StepIs p b (works k 16 (PutSlot k.place k.own))
  unfolding stage15
  move15 on e = step_is on (chosen _ _ _ (eq-eqb _ v e))

  pub move16 : AloneAt p b g 16 → StepIs p b (works k 17 (PutHand (advanced p.hand (growth p.size k.place (k.start % p.size)))))
  unfolding stage16
  move16 on = step_is on refl

  pub move17_removes : AloneAt p b g 17 → lookup p (page p v) ≡ v → StepIs p b (works (with_victim k none) 18 (PutEntry (entry_of p (page p v)) (page p v) none))
  unfolding stage17
  move17_removes on e = step_is on (chosen _ _ _ (eq-eqb _ v e))

  pub move17_keeps : AloneAt p b g 17 → lookup p (page p v) ≢ v → StepIs p b (works (with_victim k none) 18 Keep)
  unfolding stage17
  move17_keeps on z = step_is on (passed _ _ _ (ne_eqb _ v z))

  pub move18 : AloneAt p b g 18 → lookup p g ≡ none → StepIs p b (grants k k.own (PutEntry (unused_entry p) k.page k.own) Nothing)
  unfolding stage18
  move18 on a = step_is on (not_stuck on (unused_entry p) none (chosen _ _ _ (eq-eqb _ none (ap (lookup p) on.page ∙ a))) ∙ granted_is on _ _ _)
