-- By which refusals (SPECIFICATION, section 6) each call can be refused. Assumes nothing.
use Rattle.std.proofs.Math.Path.{refl}
use Rattle.std.specs.Prelude.{Bool, List, ℕ}
use Rattle.pool.specs.Choose.{choose}
use Rattle.pool.specs.Answers.{refusal_of}
use Rattle.pool.specs.State.{client}
use Rattle.pool.specs.Calls.{setup_of, refusal_at, refusal, release_move, move_of, finished, call_of}
use Rattle.laws.specs.Choices.{by_test}
use Rattle.laws.specs.Checks.{by_turn, by_check, at_begin, at_step, at_release}
use Rattle.laws.specs.StageAnswers.{StageAnswer, goes, grants, refuses, sticks, stage_answer}
use Rattle.answers.specs.Among.{Among}
use Rattle.answers.specs.Refusals.{by_setup, by_begin, by_step, by_release}
use Rattle.pool.specs.declared.Pool.{Pool}
use Rattle.pool.specs.declared.Client.{Client}
use Rattle.pool.specs.declared.Call.{Call}
use Rattle.pool.specs.declared.Call.TheVariants.{Begin, Step, Release}
use Rattle.pool.specs.declared.Move.{Move}
use Rattle.pool.specs.declared.Outcome.{Outcome}

-- what is known of a call's refusal number
abbrev pub Answers : List ℕ → Outcome → Type 0
Answers ns o = Among ns (refusal_of o.answer)

-- whichever is chosen
pub pick : {A : Type 0} (P : A → Type 0) (t : Bool) {x y : A} → P x → P y → P (choose t x y)
pick P t a b = by_test P (λ _. a) (λ _. b)

-- ---- setup

pub setup_refusals : (s t c h : ℕ) → Among by_setup (refusal_of (setup_of s t c h).answer)
unfolding setup_of refusal_of
setup_refusals s t c h = pick (Answers by_setup) _ refl refl

-- ---- a call: 8, 9, what its kind is refused by, and what its move is

module _ (ns : List ℕ) (p : Pool) (call : Call) (eight : Among ns 8) (nine : Among ns 9) where
  -- before its action
  pub turned_refusals : ((k : Client) → Among ns (refusal_at p k call)) → Among ns (refusal p call)
  turned_refusals before = by_check (Among ns) p call eight (by_turn (Among ns) p call nine (before _))

  pub call_refusals : ((k : Client) → Among ns (refusal_at p k call)) → Among ns (refusal_of (move_of p call).answer) → Answers ns (call_of p call)
  unfolding call_of finished refusal_of
  call_refusals before after = pick (Answers ns) _ (pick (Answers ns) _ after eight) (turned_refusals before)

module _ (p : Pool) (c g : ℕ) where
  pub begin_refusals : Among by_begin (refusal_of (call_of p (Begin c g)).answer)
  unfolding move_of refusal_of
  begin_refusals = call_refusals by_begin p (Begin c g) refl refl (λ k. at_begin (Among by_begin) p k c g refl refl refl refl) refl

  pub release_refusals : Among by_release (refusal_of (call_of p (Release c g)).answer)
  unfolding move_of release_move refusal_of
  release_refusals =
      call_refusals by_release p (Release c g) refl refl (λ k. at_release (Among by_release) p k c g refl refl refl)
      (pick (λ (m : Move). Among by_release (refusal_of m.answer)) _ refl refl)

-- ---- a step: only a stuck move and a sweep's end refuse

pub of_answer : {k : Client} {m : Move} → StageAnswer k m → Among by_step (refusal_of m.answer)
unfolding refusal_of
of_answer (goes j l a n) = rw a refl
of_answer (grants f g e a n) = rw a refl
of_answer (refuses e) = rw e refl
of_answer (sticks e) = rw e refl

pub step_refusals : (p : Pool) (c : ℕ) → Among by_step (refusal_of (call_of p (Step c)).answer)
unfolding move_of
step_refusals p c = call_refusals by_step p (Step c) refl refl (λ k. at_step (Among by_step) p k c refl refl) (of_answer (stage_answer p (client p c)))
