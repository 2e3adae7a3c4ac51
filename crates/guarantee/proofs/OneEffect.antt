-- A grant is begun before it in the run, as the clients rest at first, and takes effect at one step after its begin and at no other; no request of
-- the client is answered between, as that would put it to rest. Whether the request has taken effect is told by the stage its client stands at, `pins_found`: a
-- step at which it takes effect leads from a stage that says no to one that says yes, or grants at a stage that says no; every other step of a working
-- client leaves the answer as it is, and grants only where it is yes. Of the invariant only the arrays' lengths are used. Assumes nothing.
use mathlib.Core.Path.{◌≡◌, refl, sym, ap, subst, ◌∙◌}
use mathlib.Core.Logic.{◌≢◌, ◌⊎◌, inl, inr}
use mathlib.Core.Bool.{Bool, true, false, not, cond, ◌&&◌, true≢false}
use mathlib.Core.List.{List, [], ◌∷◌}
use Prim.Native.Nat.{ℕ, zero, suc, ◌≤◌, ◌<◌}
use native.Mathlib.Nat.{not-suc-le-zero, le_of_suc-le-suc}
use native.Mathlib.Omega.{arith}
use lib.Dec.{T, eqb}
use borrow.Author.Tests.{eqb-false}
use Rattle.pool.specs.State.{client}
use Rattle.pool.specs.Calls.{caller, move_of, call_of}
use Rattle.pool.specs.declared.Pool.{Pool}
use Rattle.pool.specs.declared.Client.{Client}
use Rattle.pool.specs.declared.Move.{Move}
use Rattle.pool.specs.declared.Call.{Call}
use Rattle.pool.specs.declared.Call.TheVariants.{Begin, Step, Release}
use Rattle.invariant.proofs.Reached.{pins_found, Reached}
use Rattle.laws.specs.Scans.{and_parts}
use Rattle.invariant.proofs.StageTests.{T_false}
use Rattle.invariant.proofs.Allowed.{may_begin, may_release}
use Rattle.invariant.proofs.Calls.{reached_call}
use Rattle.guarantee.specs.Runs.{Event, event_of, events, At, along, NoneBetween, Begins, GrantedTo, AnswersTo, TurnedDown}
use Rattle.guarantee.specs.Sequential.{adding, admitting}
use Rattle.guarantee.specs.Claims.{takes_effect, TakesEffect, TakesEffectOnce, OneEffect}
use Rattle.guarantee.proofs.Along.{at_each}
use Rattle.laws.specs.StageAnswers.{on_successors, on_grants, StageAnswer, goes, grants, refuses, sticks, stage_answer}
use Rattle.guarantee.proofs.TurnedDown.{same_answer, same_stage, other_answer}
use Rattle.guarantee.proofs.OneClient.{ClientAfter, same, mine, client_after, begins_or_not, turned_unanswered, working_unanswered, rest_unanswered}

-- ---- one event of a working client

-- the request has taken effect, before the event and after it
abbrev EffectChange : ℕ → Event → Bool → Bool → Type 0
EffectChange c e a b = (TakesEffect c e × (a ≡ false) × (b ≡ true)) ⊎ ((TakesEffect c e → ⊥) × (a ≡ b))

abbrev took_effect : Pool → ℕ → Bool
took_effect p c = pins_found (client p c).stage

data WorkingEvent (c : ℕ) (e : Event) : Type 0 where
  works : (client e.next c).stage ≢ 0 → (AnswersTo c e → ⊥) → EffectChange c e (took_effect e.before c) (took_effect e.next c) → WorkingEvent c e
  granted : (client e.next c).stage ≡ 0 → EffectChange c e (took_effect e.before c) true → WorkingEvent c e
  refused : (client e.next c).stage ≡ 0 → (GrantedTo c e → ⊥) → WorkingEvent c e

-- it had taken effect, it takes effect, it has taken effect
abbrev effect_ok : Bool → Bool → Bool → Bool
effect_ok a x b = cond x (not a && b) (cond a b (not b))

effect_change : (c : ℕ) (e : Event) (x a b : Bool) → e.asked ≡ Step c → takes_effect (client e.before c).stage e.answer ≡ x → T (effect_ok a x b)
    → EffectChange c e a b
effect_change c e true false true q t h = inl ((q, rw t tt), refl, refl)
effect_change c e false true true q t h = inr ((λ w. rw t at w.1), refl)
effect_change c e false false false q t h = inr ((λ w. rw t at w.1), refl)
effect_change c e true true b q t h = absurd h
effect_change c e true false false q t h = absurd h
effect_change c e false true false q t h = absurd h
effect_change c e false false true q t h = absurd h

-- nothing of the client changes
unchanged : (p : Pool) (x : Call) (c : ℕ) → (client p c).stage ≢ 0 → client (call_of p x).pool c ≡ client p c → (x ≡ Step c → TurnedDown (event_of p x))
    → WorkingEvent c (event_of p x)
unfolding takes_effect
unchanged p x c z e d =
    works (λ w. z (sym (same_stage e) ∙ w))
    (λ a. turned_unanswered (event_of p x) (d a.0) a)
    (inr ((λ w. rw (d w.0).1 at w.1), ap (λ (k : Client). pins_found k.stage) (sym e)))

-- its own step
working_step : (p : Pool) (c : ℕ) → Reached p → (client p c).stage ≢ 0 → WorkingEvent c (event_of p (Step c))
unfolding caller move_of takes_effect
working_step p c r z = go (client_after p (Step c) c r.shape)
  where
    i : ℕ
    i = (client p c).stage

    by_answer : (call_of p (Step c)).answer ≡ (move_of p (Step c)).answer → client (call_of p (Step c)).pool c ≡ (move_of p (Step c)).next
        → StageAnswer (client p c) (move_of p (Step c)) → WorkingEvent c (event_of p (Step c))
    by_answer a n (goes j l w s) =
        let at : (client (call_of p (Step c)).pool c).stage ≡ j = same_stage n ∙ s in
        let t = and_parts (not (eqb j 0)) _ (on_successors (λ i j. not (eqb j 0) && effect_ok (pins_found i) (adding i j) (pins_found j)) tt i j l) in
        works (λ q. eqb-false j 0 (T_false (eqb j 0) t.0) (sym at ∙ q)) (working_unanswered (event_of p (Step c)) (a ∙ w))
        (effect_change c (event_of p (Step c)) (adding i j) _ _ refl (ap (takes_effect i) (a ∙ w)) (rw at t.1))
    by_answer a n (grants f l _ w s) =
        granted (same_stage n ∙ s)
        (effect_change c (event_of p (Step c)) (admitting i) _ _ refl (ap (takes_effect i) (a ∙ w))
        (on_grants (λ i. T (effect_ok (pins_found i) (admitting i) true)) tt tt tt tt i l))
    by_answer a n (refuses w) =
        refused (same_stage n ∙ ap (λ (m : Move). m.next.stage) w) (λ g. other_answer (sym (a ∙ ap (λ (m : Move). m.answer) w) ∙ g.2) tt)
    by_answer a n (sticks w) = unchanged p (Step c) c z (n ∙ ap (λ (m : Move). m.next) w) (λ _. (8, a ∙ ap (λ (m : Move). m.answer) w, λ q. omega arith))

    go : ClientAfter p (Step c) c → WorkingEvent c (event_of p (Step c))
    go (same e d) = unchanged p (Step c) c z e (λ q. d (ap caller q))
    go (mine e a o n) = by_answer (same_answer o) n (stage_answer p (client p c))

working_event : (p : Pool) (x : Call) (c : ℕ) → Reached p → (client p c).stage ≢ 0 → WorkingEvent c (event_of p x)
unfolding caller
working_event p x c r z = go x (client_after p x c r.shape)
  where
    go : (x : Call) → ClientAfter p x c → WorkingEvent c (event_of p x)
    go x (same e d) = unchanged p x c z e (λ q. d (ap caller q))
    go (Begin d g) (mine e a o n) = absurd (z (ap (λ (i : ℕ). (client p i).stage) (sym e) ∙ (may_begin p (client p d) d g a.may).0))
    go (Release d g) (mine e a o n) = absurd (z (ap (λ (i : ℕ). (client p i).stage) (sym e) ∙ (may_release p (client p d) d g a.may).0))
    go (Step d) (mine e a o n) = subst (λ (i : ℕ). WorkingEvent c (event_of p (Step i))) (sym e) (working_step p c r z)

-- a begin that is done puts its client at stage 1
begun : (p : Pool) (x : Call) (c : ℕ) → Reached p → Begins c (event_of p x) → (client (call_of p x).pool c).stage ≡ 1
unfolding caller move_of
begun p x c r b = go (client_after p x c r.shape)
  where
    go : ClientAfter p x c → (client (call_of p x).pool c).stage ≡ 1
    go (same _ d) = other_answer (sym (d (ap caller b.1)).1 ∙ b.2) tt
    go (mine _ _ _ n) = same_stage n ∙ ap (λ (y : Call). (move_of p y).next.stage) b.1

-- ---- along a run

-- up to event n, for a request that has taken effect already, and for one that has not
unfoldable EffectsUpTo : ℕ → Bool → List Event → ℕ → Type 0
EffectsUpTo c true es n = (i : ℕ) → i ≤ n → At (TakesEffect c) es i → ⊥
EffectsUpTo c false es n = (j : ℕ) × (j ≤ n) × At (TakesEffect c) es j × ((i : ℕ) → i ≤ n → At (TakesEffect c) es i → i ≡ j)

effects_more : (c : ℕ) (a b : Bool) (e : Event) (es : List Event) (n : ℕ) → EffectChange c e a b → EffectsUpTo c b es n → EffectsUpTo c a (e ∷ es) (suc n)
unfolding EffectsUpTo At
effects_more c true true e es n (inr m) h = elim [ zero ↦ λ l x. m.0 x | suc i ↦ λ l x. h i (le_of_suc-le-suc l) x ]
effects_more c false false e es n (inr m) h =
    (suc h.0, omega (arith, h.1), h.2, elim [ zero ↦ λ l x. absurd (m.0 x) | suc i ↦ λ l x. ap suc (h.3 i (le_of_suc-le-suc l) x) ])
effects_more c false true e es n (inl m) h = (0, omega arith, m.0, elim [ zero ↦ λ l x. refl | suc i ↦ λ l x. absurd (h i (le_of_suc-le-suc l) x) ])
effects_more c true b e es n (inl m) h = absurd (true≢false m.1)
effects_more c false false e es n (inl m) h = absurd (true≢false (sym m.2))
effects_more c true false e es n (inr m) h = absurd (true≢false m.1)
effects_more c false true e es n (inr m) h = absurd (true≢false (sym m.1))

effects_last : (c : ℕ) (a : Bool) (e : Event) (es : List Event) → EffectChange c e a true → EffectsUpTo c a (e ∷ es) 0
unfolding EffectsUpTo At
effects_last c true e es (inr m) = elim [ zero ↦ λ l x. m.0 x | suc i ↦ λ l x. not-suc-le-zero l ]
effects_last c false e es (inl m) = (0, omega arith, m.0, λ i l _. omega arith)
effects_last c true e es (inl m) = absurd (true≢false m.1)
effects_last c false e es (inr m) = absurd (true≢false (sym m.1))

-- a grant answers a request
answer : {c : ℕ} (e : Event) → GrantedTo c e → AnswersTo c e
answer e g = (g.1, inl (g.0, g.2))

answers : (p : Pool) (calls : List Call) → Reached p → (c n : ℕ) → At (GrantedTo c) (events p calls) n → At (AnswersTo c) (events p calls) n
answers p calls r c n g = at_each (GrantedTo c) (AnswersTo c) (λ p x _ g. answer (event_of p x) g) p calls r n g

-- none of the first n events has the property
abbrev NoneBefore : (Event → Type 0) → List Event → ℕ → Type 0
NoneBefore P es n = (m : ℕ) → m < n → At P es m → ⊥

-- one event more in front: then none is among the first n + 1, or between any two events up to there, or between those that come later
module _ (P : Event → Type 0) (e : Event) (es : List Event) where
  before_more : (n : ℕ) → (P e → ⊥) → NoneBefore P es n → NoneBefore P (e ∷ es) (suc n)
  unfolding At
  before_more n d h = elim [ zero ↦ λ _. d | suc m ↦ λ l. h m (le_of_suc-le-suc l) ]

  between_first : (n k l : ℕ) → l ≤ suc n → NoneBefore P es n → NoneBetween P (along (e ∷ es)) k l
  unfolding At
  between_first n k l up h = elim [ zero ↦ λ a _ _. not-suc-le-zero a | suc m ↦ λ _ b. h m (omega arith) ]

  between_later : (j n k l : ℕ) → suc j ≤ k → l ≤ suc n → NoneBetween P (along es) j n → NoneBetween P (along (e ∷ es)) k l
  unfolding At
  between_later j n k l from up h = elim [ zero ↦ λ a _ _. not-suc-le-zero a | suc m ↦ λ a b. h m (omega arith) (omega arith) ]

-- From a pool where the client works, up to the grant, with no begin in between: the request takes effect once, and is not answered before.
effects_from : (p : Pool) (calls : List Call) → Reached p → (c n : ℕ) → (client p c).stage ≢ 0 → NoneBefore (Begins c) (events p calls) n
    → At (GrantedTo c) (events p calls) n → EffectsUpTo c (took_effect p c) (events p calls) n × NoneBefore (AnswersTo c) (events p calls) n
unfolding events At
effects_from p [] r c n z nb g = absurd g
effects_from p (x ∷ calls) r c zero z nb g =
    elim (working_event p x c r z) [
      | works _ y _ ↦ absurd (y (answer (event_of p x) g))
      | granted _ m ↦ (effects_last c (took_effect p c) (event_of p x) (events (call_of p x).pool calls) m, λ m l _. not-suc-le-zero l)
      | refused _ y ↦ absurd (y g)
    ]
effects_from p (x ∷ calls) r c (suc n) z nb g =
    let q : Pool = (call_of p x).pool in
    let later : NoneBefore (Begins c) (events q calls) n = λ m l. nb (suc m) (omega arith) in
    let ih = effects_from q calls (reached_call p x r) c n in
    let end : (client q c).stage ≢ 0 = λ w. rest_unanswered q calls (reached_call p x r) c n w later (answers q calls (reached_call p x r) c n g) in
    elim (working_event p x c r z) [
      | works w y m ↦
          let h = ih w later g in
          (effects_more c (took_effect p c) (took_effect q c) (event_of p x) (events q calls) n m h.0, before_more (AnswersTo c) (event_of p x) (events q calls) n y h.1)
      | granted w _ ↦ absurd (end w)
      | refused w _ ↦ absurd (end w)
    ]

-- the begin is a later one, it is this one, or there is none
begun_later : (c : ℕ) (e : Event) (es : List Event) (n : ℕ) → TakesEffectOnce (along es) c n → TakesEffectOnce (along (e ∷ es)) c (suc n)
unfolding At
begun_later c e es n h =
    let w = h.once in
    record {
      begin = suc h.begin;
      earlier = omega (arith, h.earlier);
      begun = h.begun;
      same_request = between_later _ e es _ _ _ _ (omega arith) (omega arith) h.same_request;
      no_other_answer = between_later _ e es _ _ _ _ (omega arith) (omega arith) h.no_other_answer;
      once = (
        suc w.0,
        omega (arith, w.1),
        omega (arith, w.2),
        w.3,
        elim [ zero ↦ λ l _ _. absurd (not-suc-le-zero l) | suc i ↦ λ l g x. ap suc (w.4 i (le_of_suc-le-suc l) (le_of_suc-le-suc g) x) ],
      );
    }

begun_now : (c : ℕ) (e : Event) (es : List Event) (n : ℕ) → Begins c e → NoneBefore (Begins c) es n
    → EffectsUpTo c false es n × NoneBefore (AnswersTo c) es n → TakesEffectOnce (along (e ∷ es)) c (suc n)
unfolding At EffectsUpTo
begun_now c e es n b nb h =
    let w = h.0 in
    record {
      begin = 0;
      earlier = omega arith;
      begun = b;
      same_request = between_first _ e es n _ _ (omega arith) nb;
      no_other_answer = between_first _ e es n _ _ (omega arith) h.1;
      once = (
        suc w.0,
        omega arith,
        omega (arith, w.1),
        w.2,
        elim [ zero ↦ λ l _ _. absurd (not-suc-le-zero l) | suc i ↦ λ _ g x. ap suc (w.3 i (le_of_suc-le-suc g) x) ],
      );
    }

-- a grant has its begin in the run, or none of the client's is done there before it
begun_or_not : (p : Pool) (calls : List Call) → Reached p → (c n : ℕ) → At (GrantedTo c) (events p calls) n
    → TakesEffectOnce (along (events p calls)) c n ⊎ NoneBefore (Begins c) (events p calls) n
unfolding events At
begun_or_not p [] r c n g = absurd g
begun_or_not p (x ∷ calls) r c zero g = inr (λ m l _. not-suc-le-zero l)
begun_or_not p (x ∷ calls) r c (suc n) g =
    elim (begun_or_not q calls (reached_call p x r) c n g) [
      | inl h ↦ inl (begun_later c (event_of p x) (events q calls) n h)
      | inr nb ↦ here nb (begins_or_not p x c r.shape)
    ]
  where
    q : Pool
    q = (call_of p x).pool

    here : NoneBefore (Begins c) (events q calls) n → Dec (Begins c (event_of p x))
        → TakesEffectOnce (along (event_of p x ∷ events q calls)) c (suc n) ⊎ NoneBefore (Begins c) (event_of p x ∷ events q calls) (suc n)
    here nb (yes b) =
        let one : (client q c).stage ≡ 1 = begun p x c r b in
        inl (begun_now c (event_of p x) (events q calls) n b nb
        (subst (λ (i : ℕ). EffectsUpTo c (pins_found i) (events q calls) n × NoneBefore (AnswersTo c) (events q calls) n) one
        (effects_from q calls (reached_call p x r) c n (λ z. omega arith) nb g)))
    here nb (no d) = inr (before_more _ (event_of p x) (events q calls) n d nb)

-- from a pool whose clients rest: there no client is granted anything before it begins
pub one_effect : (p : Pool) (calls : List Call) → Reached p → ((c : ℕ) → (client p c).stage ≡ 0) → OneEffect (along (events p calls))
one_effect p calls r rests c n g =
    elim (begun_or_not p calls r c n g) [
      | inl h ↦ h
      | inr nb ↦ absurd (rest_unanswered p calls r c n (rests c) nb (answers p calls r c n g))
    ]
