-- Answers as numbers: by its number a step is accepted or not, and an answer of a kept state has a value of 32 bits. Assumes nothing.
use mathlib.Core.Path.{◌≡◌, sym, ap, subst, ◌∙◌}
use mathlib.Core.Logic.{inl, inr}
use mathlib.Core.List.{List, [], ◌∷◌, map}
use Prim.Native.Nat.{ℕ, zero, suc, ◌<◌}
use native.Mathlib.Omega.{arith}
use Rattle.pool.specs.Answers.{code_of, value_of}
use Rattle.pool.specs.declared.Answer.{Answer}
use Rattle.pool.specs.declared.Answer.TheVariants.{Granted, Refused}
use Rattle.pool.specs.declared.Call.TheVariants.{Step}
use Rattle.invariant.proofs.After.{few_frames}
use Rattle.guarantee.specs.Runs.{At, EndsRequest}
use Rattle.guarantee.specs.Claims.{Listed}
use Rattle.guarantee.specs.Progress.{Accepting, StepAnswered}
use Rattle.guarantee.proofs.TurnedDown.{other_answer}
use Rattle.memory.specs.Requests.{Request, State, call_on}
use Rattle.memory.specs.Happenings.{Happening, happenings}
use Rattle.contents.proofs.Kept.{Kept}
use Rattle.contents.proofs.CallsNext.{kept_call}
use Rattle.mixed.specs.Mixed.{ListedOn, asks_step}
use Rattle.mixed.proofs.Guaranteed.{guarantee_on}
use Rattle.served.specs.Words.{word_of}
use Rattle.served_tie.specs.Serving.{IsAnswer, IsAccepted}

pub accepting : (a : Answer) → IsAccepted (word_of a) → Accepting a
unfolding word_of code_of value_of
accepting a w (n, e, z) = go (subst IsAccepted (ap word_of e) w)
  where
    go : IsAccepted (word_of (Refused n)) → ⊥
    go (inl (v, l, q)) = omega arith
    go (inr (inl (v, l, q))) = omega arith
    go (inr (inr (v, l, q))) = z (omega arith)

low_frame : (x : State) → Kept x → (c f : ℕ) → (call_on x (asks_step c)).answer ≡ Granted f → f < 4294967296
unfolding ListedOn Listed value_of
low_frame x k c f e = elim (guarantee_on.listed x (asks_step c)) [ inl w ↦ other_answer (sym e ∙ w) tt | inr w ↦ go w ]
  where
    go : Listed x.pool (Step c) (call_on x (asks_step c)).answer → f < 4294967296
    go (inl (j, w, _, _)) = other_answer (sym e ∙ w) tt
    go (inr (inl (g, w, l))) =
        let same : f ≡ g = ap value_of (sym e ∙ w) in
        omega (arith, few_frames x.pool k.reached.shape)
    go (inr (inr (inl w))) = other_answer (sym e ∙ w) tt
    go (inr (inr (inr (inl w)))) = other_answer (sym e ∙ w) tt
    go (inr (inr (inr (inr w)))) = other_answer (sym e ∙ w) tt

answer_number : (x : State) → Kept x → (c : ℕ) → EndsRequest (call_on x (asks_step c)).answer → IsAnswer (word_of (call_on x (asks_step c)).answer)
unfolding word_of code_of value_of
answer_number x k c (inl (f, e)) = inl (f, low_frame x k c f e, ap word_of e)
answer_number x k c (inr e) = inr (0, omega arith, ap word_of e)

pub answers_numbered : (x : State) → Kept x → (qs : List Request) (n : ℕ) → StepAnswered asks_step qs (map (λ (h : Happening). h.answer) (happenings x qs)) EndsRequest n
    → StepAnswered asks_step qs (map (λ (h : Happening). word_of h.answer) (happenings x qs)) IsAnswer n
unfolding happenings At
answers_numbered x k [] n w = absurd w.1
answers_numbered x k (q ∷ qs) zero (c, e, w) = (c, e, subst (λ (r : Request). EndsRequest (call_on x r).answer → IsAnswer (word_of (call_on x r).answer)) (sym e) (answer_number x k c) w)
answers_numbered x k (q ∷ qs) (suc n) w = answers_numbered (call_on x q).state (kept_call x k q) qs n w
