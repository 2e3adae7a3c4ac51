-- Claim 24 from the rank: as long as no answer comes, each accepted step lowers it, and no other call raises it. So there are no more accepted steps
-- than the rank where the first of them is made, and this is below `step_bound`. Assumes nothing.
use mathlib.Core.Path.{◌≡◌, refl, ap, subst, ◌∙◌}
use mathlib.Core.Logic.{◌≢◌, ◌⊎◌, inl, inr}
use mathlib.Core.List.{List, [], ◌∷◌, map}
use Prim.Native.Nat.{ℕ, zero, suc, ◌-◌, ◌≤◌, ◌<◌}
use native.Mathlib.Decide.{ℕ_discrete}
use native.Mathlib.Omega.{arith}
use Rattle.pool.specs.Answers.{refusal_of}
use Rattle.pool.specs.State.{number_of_clients, client}
use Rattle.pool.specs.Stages.{stage_move}
use Rattle.pool.specs.Calls.{fresh, caller, refusal, move_of, call_of}
use Rattle.pool.specs.declared.Pool.{Pool}
use Rattle.pool.specs.declared.Move.{Move}
use Rattle.pool.specs.declared.Outcome.{Outcome}
use Rattle.pool.specs.declared.Call.{Call}
use Rattle.pool.specs.declared.Call.TheVariants.{Begin, Step, Release}
use Rattle.pool.specs.declared.Answer.{Answer}
use Rattle.pool.specs.declared.Answer.TheVariants.{Refused}
use Rattle.laws.specs.StageAnswers.{StageAnswer, goes, grants, refuses, sticks, stage_answer}
use Rattle.invariant.proofs.Reached.{Reached}
use Rattle.invariant.proofs.Allowed.{refusal_not_15, allowed, may_begin, may_step, may_release}
use Rattle.invariant.proofs.Calls.{outcome_of, never_stuck, reached_next, by_refusal, reached_call}
use Rattle.progress.proofs.Rank.{rank}
use Rattle.progress.proofs.Bound.{bounded}
use Rattle.progress.proofs.Writes.{Acting}
use Rattle.progress.proofs.Moves.{Falls, ends, lower}
use Rattle.progress.proofs.StageFalls.{step_falls}
use Rattle.progress.proofs.BeginRelease.{begin_keeps, release_keeps}
use Rattle.guarantee.specs.Runs.{Event, event_of, events, At, along, EndsRequest}
use Rattle.guarantee.specs.Progress.{step_bound, plain_bound, StepWith, AcceptedStep, Answers, OneAnswers, GetsThrough, StepAnswered}
use Rattle.guarantee.proofs.TurnedDown.{other_call, same_numbers}
use Rattle.guarantee.proofs.StepBounds.{rank_bound, bounds}

-- ---- one call

-- what a call does to the rank
data CallRank (p : Pool) (x : Call) (o : Outcome) : Type 0 where
  answers : (c : ℕ) → x ≡ Step c → EndsRequest o.answer → CallRank p x o
  falls : rank o.pool < rank p → CallRank p x o
  no_step : ((c : ℕ) → x ≢ Step c) → rank o.pool ≤ rank p → CallRank p x o
  turned : (n : ℕ) → o.answer ≡ Refused n → n ≢ 15 → o.pool ≡ p → CallRank p x o

module _ (p : Pool) (r : Reached p) where
  acting : (x : Call) → refusal p x ≡ 0 → Acting p (caller x)
  acting x e = record { here = (allowed p x e).here; reached = r }

  accepted : (x : Call) → refusal p x ≡ 0 → CallRank p x (outcome_of p (caller x) (move_of p x))
  unfolding caller move_of refusal_of
  accepted (Begin c g) e =
      no_step (λ d w. other_call w tt) (begin_keeps (acting (Begin c g) e) g (may_begin p (client p c) c g (allowed p (Begin c g) e).may).0)
  accepted (Release c g) e =
      let may = may_release p (client p c) c g (allowed p (Release c g) e).may in
      no_step (λ d w. other_call w tt) (release_keeps (acting (Release c g) e) g may.0 may.1)
  accepted (Step c) e = go (stage_answer p (client p c)) (step_falls (acting (Step c) e) (may_step p (client p c) c (allowed p (Step c) e).may))
    where
      m : Move
      m = stage_move p (client p c)

      go : StageAnswer (client p c) m → Falls p c m → CallRank p (Step c) (outcome_of p c m)
      go (grants f _ _ w _) _ = answers c refl (inl (f, w))
      go (refuses w) _ = answers c refl (inr (ap (λ (m : Move). m.answer) w))
      go (sticks w) _ = absurd (never_stuck p (Step c) r e (ap (λ (m : Move). refusal_of m.answer) w))
      go (goes j _ w _) (ends h) = absurd (rw w at h)
      go (goes j _ w _) (lower h) = falls (h (reached_next p (Step c) r e))

  call_rank : (x : Call) → CallRank p x (call_of p x)
  call_rank x = by_refusal p x (CallRank p x) r (accepted x) (λ n e z. turned n refl (λ w. refusal_not_15 p x (e ∙ w)) refl)

-- ---- a list of calls

-- an event that is not the first, in the list without the first
behind : (P : Event → Type 0) (e : Event) (es : List Event) (n : ℕ) → n ≢ 0 → At P (e ∷ es) n → At P es (n - 1)
unfolding At
behind P e es zero z a = absurd (z refl)
behind P e es (suc n) z a = subst (At P es) (let q : n ≡ suc n - 1 = omega arith in q) a

-- the places of accepted steps: `nth` 0 up to `nth` last, each later than the one before it
record Steps (es : List Event) (nth : ℕ → ℕ) (last : ℕ) : Type 0 where
  later : (i : ℕ) → i < last → nth i < nth (suc i)
  has : (i : ℕ) → i ≤ last → At AcceptedStep es (nth i)

module _ {e : Event} {es : List Event} where
  -- where the first event is none of them
  positive : {nth : ℕ → ℕ} {last : ℕ} → Steps (e ∷ es) nth last → nth 0 ≢ 0 → (i : ℕ) → i ≤ last → nth i ≢ 0
  positive x z zero l = z
  positive x z (suc i) l = λ w. let y : ⊥ = omega (arith, x.later i (omega arith)) in y

  all_behind : {nth : ℕ → ℕ} {last : ℕ} → Steps (e ∷ es) nth last → nth 0 ≢ 0 → Steps es (λ i. nth i - 1) last
  all_behind {nth} {last} x z =
      record {
        later = λ i l. let n = positive x z i (omega arith) in omega (arith, x.later i l);
        has = λ i l. behind AcceptedStep e es (nth i) (positive x z i l) (x.has i l);
      }

  -- without the first of them
  others_behind : {nth : ℕ → ℕ} {last : ℕ} → Steps (e ∷ es) nth (suc last) → Steps es (λ i. nth (suc i) - 1) last
  others_behind {nth} {last} x =
      record {
        later = λ i l. omega (arith, x.later i (omega arith), x.later (suc i) (omega arith));
        has = λ i l.
            behind AcceptedStep e es (nth (suc i)) (λ w. let y : ⊥ = omega (arith, x.later i (omega arith)) in y) (x.has (suc i) (omega arith));
      }

-- up to event n there is an answer
abbrev AnswersBy : List Event → ℕ → Type 0
AnswersBy es n = (m : ℕ) × (m ≤ n) × At Answers es m

-- up to the last of the accepted steps there is an answer, or they are no more than the rank at first: so it is after the first call (`next`), so with it
module _ (p : Pool) (y : Call) (calls : List Call) (r : Reached p)
    (next : (nth : ℕ → ℕ) (last : ℕ) → Steps (events (call_of p y).pool calls) nth last
    → AnswersBy (events (call_of p y).pool calls) (nth last) ⊎ (last < rank (call_of p y).pool)) where
  abbrev q : Pool
  q = (call_of p y).pool

  abbrev es : List Event
  es = event_of p y ∷ events q calls

  -- the first of them comes later; or it is this call, which lowers the rank
  skips : (nth : ℕ → ℕ) (last : ℕ) → Steps es nth last → nth 0 ≢ 0 → rank q ≤ rank p → AnswersBy es (nth last) ⊎ (last < rank p)
  unfolding At
  skips nth last x z l =
      let back : nth last - 1 < nth last = let n = positive x z last (omega arith) in omega arith in
      elim (next (λ i. nth i - 1) last (all_behind x z)) [ inl (m, n, a) ↦ inl (suc m, omega arith, a) | inr h ↦ inr (omega arith) ]

  makes : (nth : ℕ → ℕ) (last : ℕ) → Steps es nth last → rank q < rank p → AnswersBy es (nth last) ⊎ (last < rank p)
  unfolding At
  makes nth zero x l = inr (omega arith)
  makes nth (suc n) x l =
      let back = x.later n (omega arith) in
      elim (next (λ i. nth (suc i) - 1) n (others_behind x)) [ inl (m, b, a) ↦ inl (suc m, omega arith, a) | inr h ↦ inr (omega arith) ]

  with_call : (nth : ℕ → ℕ) (last : ℕ) → Steps es nth last → AnswersBy es (nth last) ⊎ (last < rank p)
  unfolding At
  with_call nth last x = go (call_rank p r y) (ℕ_discrete (nth 0) 0)
    where
      first : nth 0 ≡ 0 → AcceptedStep (event_of p y)
      first z = subst (At AcceptedStep es) z (x.has 0 (omega arith))

      go : CallRank p y (call_of p y) → Dec (nth 0 ≡ 0) → AnswersBy es (nth last) ⊎ (last < rank p)
      go (answers c s a) _ = inl (0, omega arith, (c, s, a))
      go (falls l) (yes z) = makes nth last x l
      go (falls l) (no z) = skips nth last x z (omega arith)
      go (no_step s l) (yes z) = absurd (s (first z).0 (first z).1)
      go (no_step _ l) (no z) = skips nth last x z l
      go (turned n e w _) (yes z) = absurd ((first z).2 (n, e, w))
      go (turned _ _ _ e) (no z) = skips nth last x z (rw e (omega arith))

answered : (p : Pool) (calls : List Call) → Reached p → (nth : ℕ → ℕ) (last : ℕ) → Steps (events p calls) nth last
    → AnswersBy (events p calls) (nth last) ⊎ (last < rank p)
unfolding events At
answered p [] r nth last x = absurd (x.has 0 (omega arith))
answered p (y ∷ calls) r nth last x = with_call p y calls r (answered (call_of p y).pool calls (reached_call p y r)) nth last x

-- from the first of them on, if they are as many as `step_bound` says
from_first : (p : Pool) (calls : List Call) → Reached p → (nth : ℕ → ℕ) (last : ℕ) → Steps (events p calls) nth last
    → step_bound p.size (number_of_clients p) p.cap ≤ suc last → (m : ℕ) × (nth 0 ≤ m) × (m ≤ nth last) × At Answers (events p calls) m
unfolding events At
from_first p [] r nth last x many = absurd (x.has 0 (omega arith))
from_first p (y ∷ calls) r nth last x many = go (ℕ_discrete (nth 0) 0) (from_first (call_of p y).pool calls (reached_call p y r))
  where
    q : Pool
    q = (call_of p y).pool

    es : List Event
    es = events p (y ∷ calls)

    go : Dec (nth 0 ≡ 0)
        → ((nth : ℕ → ℕ) (last : ℕ) → Steps (events q calls) nth last → step_bound q.size (number_of_clients q) q.cap ≤ suc last
        → (m : ℕ) × (nth 0 ≤ m) × (m ≤ nth last) × At Answers (events q calls) m)
        → (m : ℕ) × (nth 0 ≤ m) × (m ≤ nth last) × At Answers es m
    go (yes z) _ =
        elim (answered p (y ∷ calls) r nth last x) [
          | inl (m, l, a) ↦ (m, omega arith, l, a)
          | inr h ↦ absurd (let w : ⊥ = omega (arith, bounded p r, rank_bound p.size (number_of_clients p) p.cap) in w)
        ]
    go (no z) next =
        let back : nth last - 1 < nth last = let n = positive x z last (omega arith) in omega arith in
        let (m, k, l, a) = next (λ i. nth i - 1) last (all_behind x z) (omega (arith, same_numbers step_bound p y)) in
        (suc m, omega arith, omega arith, a)

-- ---- the claim

module _ (p : Pool) (calls : List Call) (r : Reached p) where
  one_answers : (n : ℕ) → 1 ≤ n → step_bound p.size (number_of_clients p) p.cap ≤ n
      → OneAnswers (along (events p calls) AcceptedStep) (along (events p calls) Answers) n
  one_answers n low many x =
      from_first p calls r x.nth (n - 1)
      (record { later = λ i l. x.later i (omega arith); has = λ i l. x.has i (omega arith) }) (omega arith)

  pub gets_through : GetsThrough p.size (number_of_clients p) p.cap (along (events p calls) AcceptedStep) (along (events p calls) Answers)
  gets_through =
      let b = bounds p.size (number_of_clients p) p.cap r.shape.size_low r.shape.clients_low r.shape.cap_low in
      record {
        close = one_answers (step_bound p.size (number_of_clients p) p.cap) (omega arith) (omega arith);
        plain = one_answers (plain_bound p.size (number_of_clients p) p.cap) (omega (arith, b.0)) b.0;
      }

-- ---- places of another list

-- where each accepted step of the other list is one of this, and each answer of this list one of the other, at the same places
module _ {Has Answered Has' Answered' : ℕ → Type 0} where
  pub same_places : ((n : ℕ) → Has' n → Has n) → ((n : ℕ) → Answered n → Answered' n) → (s t c : ℕ) → GetsThrough s t c Has Answered → GetsThrough s t c Has' Answered'
  same_places down back s t c base = record { close = one (step_bound s t c) base.close; plain = one (plain_bound s t c) base.plain }
    where
      one : (n : ℕ) → OneAnswers Has Answered n → OneAnswers Has' Answered' n
      one n h x = let (m, a, b, w) = h (record { nth = x.nth; later = x.later; has = λ i l. down (x.nth i) (x.has i l) }) in (m, a, b, back m w)

-- the numbers of the setup are the pool's
pub of_numbers : {Has Answered : ℕ → Type 0} {p : Pool} {s t c h : ℕ} → p ≡ fresh s t c h → GetsThrough p.size (number_of_clients p) p.cap Has Answered
    → GetsThrough s t c Has Answered
of_numbers {Has} {Answered} e g = subst (λ (p : Pool). GetsThrough p.size (number_of_clients p) p.cap Has Answered) e g

-- what was asked and answered at a place is the event there, and back
module _ (P : Answer → Type 0) where
  pub steps_there : (p : Pool) (calls : List Call) (n : ℕ) → StepAnswered Step calls (map (λ (e : Event). e.answer) (events p calls)) P n
      → along (events p calls) (StepWith P) n
  unfolding events At
  steps_there p [] n w = absurd w.1
  steps_there p (x ∷ calls) zero w = w
  steps_there p (x ∷ calls) (suc n) w = steps_there (call_of p x).pool calls n w

  pub steps_back : (p : Pool) (calls : List Call) (n : ℕ) → along (events p calls) (StepWith P) n
      → StepAnswered Step calls (map (λ (e : Event). e.answer) (events p calls)) P n
  unfolding events At
  steps_back p [] n w = absurd w
  steps_back p (x ∷ calls) zero w = w
  steps_back p (x ∷ calls) (suc n) w = steps_back (call_of p x).pool calls n w
