-- A client that runs alone is refused by 15 exactly if at its begin the page was not resident and each slot had a held frame: `RunsAlone` followed
-- along the run, up to the answer. Assumes nothing.
use mathlib.Core.Path.{◌≡◌, refl, sym, ap, subst, ◌∙◌}
use mathlib.Core.Logic.{◌≢◌, ◌⊎◌, inl, inr, ◌↔◌}
use mathlib.Core.Bool.{false}
use mathlib.Core.List.{List, [], ◌∷◌}
use Prim.Native.Nat.{ℕ, zero, suc, ◌<◌}
use native.Mathlib.Decide.{ℕ_discrete}
use native.Mathlib.Nat.{not-suc-le-zero, le_of_suc-le-suc}
use native.Mathlib.Omega.{arith}
use Rattle.pool.specs.State.{pins, client}
use Rattle.pool.specs.Table.{resident}
use Rattle.pool.specs.Apply.{apply}
use Rattle.pool.specs.Calls.{caller, begin_move, call_of}
use Rattle.pool.specs.declared.Pool.{Pool}
use Rattle.pool.specs.declared.Move.{Move}
use Rattle.pool.specs.declared.Outcome.{Outcome}
use Rattle.pool.specs.declared.Call.{Call}
use Rattle.pool.specs.declared.Call.TheVariants.{Begin, Step, Release}
use Rattle.pool.specs.declared.Answer.TheVariants.{Done, Refused}
use Rattle.invariant.proofs.Reached.{Reached}
use Rattle.invariant.proofs.Allowed.{allowed, only_step}
use Rattle.invariant.proofs.Calls.{reached_call}
use Rattle.guarantee.specs.Runs.{Event, event_of, events, At, along, Begins, AnswersTo, TurnedDown}
use Rattle.guarantee.specs.Claims.{AllHeld, RefusedAlone}
use Rattle.guarantee.proofs.TurnedDown.{same_pool, other_answer, other_call, turned_down_lem, turned, one_move, turned_or_move}
use Rattle.guarantee.proofs.OneClient.{working_unanswered, rest_unanswered}
use Rattle.guarantee.proofs.AloneSteps.{begun_is, begun_rests, begun_alone}
use Rattle.guarantee.proofs.SinceBegin.{SameAsBegin, same_as_begin_next, counters_pins}
use Rattle.guarantee.proofs.Along.{at_before}
use Rattle.guarantee.proofs.RunAlone.{MustRefuse, RunsAlone, at1, StepResult, goes_on, granted, refused, result, Works, working}

step_same : {b c : ℕ} → Step c ≡ Step b → c ≡ b
unfolding caller
step_same e = ap caller e

module _ (p₀ : Pool) (b g : ℕ) (reached : Reached p₀) (rest : (c : ℕ) → (client p₀ c).stage ≡ 0) where
  -- ---- along a run

  abbrev Running : Pool → Type 0
  Running p = RunsAlone p₀ b g reached rest p

  abbrev Condition : Type 0
  Condition = MustRefuse p₀ b g reached rest

  abbrev Result : Outcome → Type 0
  Result o = StepResult p₀ b g reached rest o

  abbrev OwnOrTurnedDown : Event → Type 0
  OwnOrTurnedDown e = (caller e.asked ≡ b) ⊎ TurnedDown e

  abbrev RefusedIff : Event → Type 0
  RefusedIff e = ((e.answer ≡ Refused 15) × Condition) ⊎ ((e.answer ≢ Refused 15) × (Condition → ⊥))

  -- a call that is no step of the client changes nothing
  idle_call : (p : Pool) (x : Call) → Works p₀ b g reached rest p → OwnOrTurnedDown (event_of p x) → x ≢ Step b → (call_of p x).pool ≡ p
  idle_call p x w (inr t) n = (turned_down_lem p x t.0 t.1 t.2).0
  idle_call p x w (inl e) n =
      elim (turned_or_move p x) [
        | turned _ _ q ↦ same_pool q
        | one_move r _ _ ↦
            let works : (client p (caller x)).stage ≡ suc w.0 = ap (λ (c : ℕ). (client p c).stage) e ∙ w.1.stage in
            absurd (n (only_step p x (allowed p x r) (λ z. omega arith) ∙ ap Step e))
      ]

  run_alone : (p : Pool) (calls : List Call) (n : ℕ) → Running p → ((m : ℕ) → m < n → At (Begins b) (events p calls) m → ⊥)
      → ((m : ℕ) → m < n → At OwnOrTurnedDown (events p calls) m)
      → At (AnswersTo b) (events p calls) n → At RefusedIff (events p calls) n
  unfolding events At
  run_alone p [] n running nb fair a = absurd a
  run_alone p (x ∷ calls) zero running nb fair a =
      subst (λ (y : Call). AnswersTo b (event_of p y) → RefusedIff (event_of p y)) (sym a.0) (ends (result p₀ b g reached rest p running)) a
    where
      ends : Result (call_of p (Step b)) → AnswersTo b (event_of p (Step b)) → RefusedIff (event_of p (Step b))
      ends (goes_on j e _) answered = absurd (working_unanswered (event_of p (Step b)) e answered)
      ends (granted f e _ n) _ = inr ((λ r. other_answer (sym r ∙ e) tt), n)
      ends (refused e _ f) _ = inl (e, f)
  run_alone p (x ∷ calls) (suc n) running nb fair a =
      go (is_step x) (λ q. run_alone (call_of p x).pool calls n q later (λ m l. fair (suc m) (omega arith)) a)
      (λ z. rest_unanswered (call_of p x).pool calls (reached_call p x (working p₀ b g reached rest running).1.reached) b n z later a)
    where
      Goal : Type 0
      Goal = At RefusedIff (events (call_of p x).pool calls) n

      later : (m : ℕ) → m < n → At (Begins b) (events (call_of p x).pool calls) m → ⊥
      later m l = nb (suc m) (omega arith)

      is_step : (x : Call) → Dec (x ≡ Step b)
      is_step (Begin c h) = no (λ e. other_call e tt)
      is_step (Release c h) = no (λ e. other_call e tt)
      is_step (Step c) = elim (ℕ_discrete c b) [ yes e ↦ yes (ap Step e) | no e ↦ no (λ q. e (step_same q)) ]

      stepped : x ≡ Step b → Result (call_of p (Step b)) → (Running (call_of p x).pool → Goal) → ((client (call_of p x).pool b).stage ≢ 0) → Goal
      stepped e (goes_on j _ q) rec end = rec (subst (λ (y : Call). Running (call_of p y).pool) (sym e) q)
      stepped e (granted f _ z _) rec end = absurd (end (subst (λ (y : Call). (client (call_of p y).pool b).stage ≡ 0) (sym e) z))
      stepped e (refused _ z _) rec end = absurd (end (subst (λ (y : Call). (client (call_of p y).pool b).stage ≡ 0) (sym e) z))

      go : Dec (x ≡ Step b) → (Running (call_of p x).pool → Goal) → ((client (call_of p x).pool b).stage ≢ 0) → Goal
      go (yes e) rec end = stepped e (result p₀ b g reached rest p running) rec end
      go (no e) rec end = rec (subst Running (sym (idle_call p x (working p₀ b g reached rest running) (fair 0 (omega arith)) e)) running)

  refused_iff : (es : List Event) (n : ℕ) → At RefusedIff es n → At (λ e. e.answer ≡ Refused 15) es n ↔ Condition
  unfolding At
  refused_iff [] n v = absurd v
  refused_iff (e ∷ es) zero (inl v) = ((λ _. v.1), (λ _. v.0))
  refused_iff (e ∷ es) zero (inr v) = ((λ r. absurd (v.0 r)), (λ f. absurd (v.1 f)))
  refused_iff (e ∷ es) (suc n) v = refused_iff es n v

-- ---- the claim

module _ (p : Pool) (b g : ℕ) (r : Reached p) (done : (call_of p (Begin b g)).answer ≡ Done g) (others : (c : ℕ) → c ≢ b → (client p c).stage ≡ 0) where
  all_rest : (c : ℕ) → (client p c).stage ≡ 0
  all_rest c = elim (ℕ_discrete c b) [ yes e ↦ ap (λ (c : ℕ). (client p c).stage) e ∙ begun_rests p b g done | no e ↦ others c e ]

  -- the pool after the begin
  start : RunsAlone p b g r all_rest (call_of p (Begin b g)).pool
  unfolding apply
  start =
      at1 (begun_alone p b g done r others)
      (begun_is p b g done (λ q. SameAsBegin p q g)
      (same_as_begin_next p b m r tt (record { slots = λ _. refl; lookup = refl; size = refl; pins = λ _. refl })))
      (begun_is p b g done (λ q. (f : ℕ) → pins q f ≡ pins p f) (counters_pins p b m r tt))
    where
      m : Move
      m = begin_move (client p b) g

pub refused_alone : (p : Pool) (calls : List Call) → Reached p → RefusedAlone (along (events p calls))
unfolding events At
refused_alone p [] r q c g k n a = absurd a.begun
refused_alone p (x ∷ calls) r q c g k zero a = absurd (not-suc-le-zero a.later)
refused_alone p (x ∷ calls) r q c g (suc k) (suc n) a =
    refused_alone (call_of p x).pool calls (reached_call p x r) q c g k n (record {
      begun = a.begun;
      others_rest = a.others_rest;
      later = le_of_suc-le-suc a.later;
      answered = a.answered;
      same_request = λ m y z. a.same_request (suc m) (omega arith) (omega arith);
      no_others = λ m y z. a.no_others (suc m) (omega arith) (omega arith);
    })
refused_alone p (x ∷ calls) r q c g zero (suc n) a =
    subst (λ (y : Pool). At (λ e. e.answer ≡ Refused 15) (events (call_of p x).pool calls) n ↔ ((resident y g ≡ false) × AllHeld y)) a.begun.0
    (refused_iff p c g r rest later n
    (run_alone p c g r rest (call_of p x).pool calls n first (λ m y. a.same_request (suc m) (omega arith) (omega arith)) fair a.answered))
  where
    later : List Event
    later = events (call_of p x).pool calls

    fair : (m : ℕ) → m < n → At (λ e. (caller e.asked ≡ c) ⊎ TurnedDown e) later m
    fair m l = a.no_others (suc m) (omega arith) (omega arith) (at_before (AnswersTo c) later m n (omega arith) a.answered)

    done : (call_of p (Begin c g)).answer ≡ Done g
    done = subst (λ (y : Call). (call_of p y).answer ≡ Done g) a.begun.1 a.begun.2

    others : (d : ℕ) → d ≢ c → (client p d).stage ≡ 0
    others = subst (λ (y : Pool). (d : ℕ) → d ≢ c → (client y d).stage ≡ 0) (sym a.begun.0) a.others_rest

    rest : (d : ℕ) → (client p d).stage ≡ 0
    rest = all_rest p c g r done others

    first : RunsAlone p c g r rest (call_of p x).pool
    first = subst (λ (y : Call). RunsAlone p c g r rest (call_of p y).pool) (sym a.begun.1) (start p c g r done others)
