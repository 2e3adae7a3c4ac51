-- The answer to each call of any pool is a listed one or 8: the checks turn down by the numbers of their list, and a stage leads on to a stage, grants
-- a frame of the pool, or refuses by 15 (`StageAnswers` in crate `laws`). In a pool from setup and calls 8 is never met. Assumes nothing.
use mathlib.Core.Path.{◌≡◌, refl, sym, ap, subst, ◌∙◌}
use mathlib.Core.Logic.{◌≢◌, ◌⊎◌, inl, inr}
use mathlib.Core.Bool.{◌&&◌}
use mathlib.Core.List.{List}
use native.Mathlib.Omega.{arith}
use Prim.Native.Nat.{ℕ, ◌<◌}
use native.Mathlib.Decide.{ℕ_discrete}
use lib.Dec.{T, leb, leb→le}
use Rattle.pool.specs.Choose.{member}
use Rattle.pool.specs.Answers.{refusal_of}
use Rattle.pool.specs.State.{total, client}
use Rattle.pool.specs.Valid.{uses_own, uses_found}
use Rattle.pool.specs.Calls.{caller, refusal_at, refusal, move_of, call_of}
use Rattle.pool.specs.declared.Pool.{Pool}
use Rattle.pool.specs.declared.Client.{Client}
use Rattle.pool.specs.declared.Move.{Move}
use Rattle.pool.specs.declared.Outcome.{Outcome}
use Rattle.pool.specs.declared.Call.{Call}
use Rattle.pool.specs.declared.Call.TheVariants.{Begin, Step, Release}
use Rattle.pool.specs.declared.Answer.{Answer}
use Rattle.pool.specs.declared.Answer.TheVariants.{Refused}
use Rattle.ranges.specs.Ranges.{Names, ClientRanged, ranged}
use Rattle.invariant.proofs.Reached.{Reached}
use Rattle.laws.specs.Scans.{and_parts}
use Rattle.invariant.proofs.Allowed.{Allowed, allowed}
use Rattle.invariant.proofs.Calls.{never_stuck, call_moves, call_turned_down, refusal_not_8}
use Rattle.guarantee.specs.Runs.{Event, events, At}
use Rattle.guarantee.specs.Claims.{Listed, ClaimListed}
use Rattle.guarantee.proofs.Along.{at_some}
use Rattle.laws.specs.Checks.{by_turn, by_check, at_begin, at_step, at_release}
use Rattle.laws.specs.StageAnswers.{granting, given, on_successors, on_grants, goes, grants, refuses, sticks, stage_answer}
use Rattle.guarantee.proofs.TurnedDown.{same_answer, TurnedOrMove, turned, one_move, turned_or_move, is_done, is_stuck, done_or_stuck}

abbrev ListedOr8 : Pool → Call → Answer → Type 0
ListedOr8 p x a = (a ≡ Refused 8) ⊎ Listed p x a

-- the numbers that a call is turned down by
record Numbered (p : Pool) (x : Call) (n : ℕ) : Type 0 where
  is : n ≢ 0 → ListedOr8 p x (Refused n)

module _ {p : Pool} {x : Call} where
  no_number : Numbered p x 0
  no_number = record { is = λ z. absurd (z refl) }

  by : {n : ℕ} → Listed p x (Refused n) → Numbered p x n
  by h = record { is = λ _. inr h }

  -- 8 and 9, before those of the call's kind
  past_9 : Listed p x (Refused 9) → Numbered p x (refusal_at p (client p (caller x)) x) → Numbered p x (refusal p x)
  past_9 nine its = by_check (Numbered p x) p x (record { is = λ _. inl refl }) (by_turn (Numbered p x) p x (by nine) its)

numbered : (p : Pool) (x : Call) → Numbered p x (refusal p x)
unfolding Listed
numbered p (Begin c g) =
    past_9 (inr (inl refl))
    (at_begin (Numbered p (Begin c g)) p _ c g no_number (by (inr (inr (inl refl)))) (by (inr (inr (inr (inl refl))))) (by (inr (inr (inr (inr refl))))))
numbered p (Step c) = past_9 (inr (inr (inl refl))) (at_step (Numbered p (Step c)) p _ c no_number (by (inr (inr (inr (inl refl))))))
numbered p (Release c g) =
    past_9 (inr (inl refl)) (at_release (Numbered p (Release c g)) p _ c g no_number (by (inr (inr (inl refl)))) (by (inr (inr (inr refl)))))

-- A granted frame is one of the pool's: check 8 looks at the frame that the stage uses.
given_in : (p : Pool) (c : ℕ) → ClientRanged p c → T (member (client p c).stage granting) → given (client p c).stage (client p c) < total p
given_in p c r h =
    on_grants (λ i. Names (uses_own i) (total p) k.own → Names (uses_found i) (total p) k.found → given i k < total p)
    (λ _ f. f.there refl) (λ o _. o.there refl) (λ _ f. f.there refl) (λ o _. o.there refl) k.stage h r.own r.found
  where
    k : Client
    k = client p c

listed_move : (p : Pool) (x : Call) → Allowed p x → refusal_of (move_of p x).answer ≢ 8 → Listed p x (move_of p x).answer
unfolding caller move_of refusal_of Listed
listed_move p (Begin c g) a z = inl refl
listed_move p (Release c g) a z =
    elim (done_or_stuck p c g) [ is_done e _ ↦ inl e | is_stuck e ↦ absurd (z (ap (λ (m : Move). refusal_of m.answer) e)) ]
listed_move p (Step c) a z =
    elim (stage_answer p (client p c)) [
      | goes j l e _ ↦
          let t = and_parts (leb 1 j) (leb j 23) (on_successors (λ i j. leb 1 j && leb j 23) tt (client p c).stage j l) in
          inl (j, e, leb→le 1 j t.0, omega (arith, leb→le j 23 t.1))
      | grants f l w e _ ↦ inr (inl (f, e, rw w (given_in p c ((ranged p a.ok).client c a.here) l)))
      | refuses e ↦ inr (inr (inr (inr (ap (λ (m : Move). m.answer) e))))
      | sticks e ↦ absurd (z (ap (λ (m : Move). refusal_of m.answer) e))
    ]

-- ---- every pool: 8 or a listed answer

pub listed : ClaimListed
listed p x = go (turned_or_move p x)
  where
    is : {o : Outcome} → call_of p x ≡ o → ListedOr8 p x o.answer → ListedOr8 p x (call_of p x).answer
    is e h = subst (λ (o : Outcome). ListedOr8 p x o.answer) (sym e) h

    go : TurnedOrMove p x (call_of p x) → ListedOr8 p x (call_of p x).answer
    go (turned n (inl w) e) = is e ((subst (Numbered p x) w.0 (numbered p x)).is w.1)
    go (turned n (inr w) e) = is e (inl (ap Refused w))
    go (one_move r z e) = is e (inr (listed_move p x (allowed p x r) z))

-- ---- a pool of a run: never 8, so a listed answer

pub not_8 : (p : Pool) (x : Call) → Reached p → (call_of p x).answer ≢ Refused 8
unfolding refusal_of
not_8 p x r a =
    elim (ℕ_discrete (refusal p x) 0) [
      | yes e ↦ never_stuck p x r e (is (call_moves p x r e))
      | no z ↦ refusal_not_8 p x r (is (call_turned_down p x (refusal p x) refl z))
    ]
  where
    is : {o : Outcome} → call_of p x ≡ o → refusal_of o.answer ≡ 8
    is e = ap refusal_of (sym (same_answer e) ∙ a)

listed_call : (p : Pool) (x : Call) → Reached p → Listed p x (call_of p x).answer
listed_call p x r = elim (listed p x) [ inl e ↦ absurd (not_8 p x r e) | inr h ↦ h ]

pub listed_along : (p : Pool) (calls : List Call) → Reached p
    → (n : ℕ) (e : Event) → At (λ x. x ≡ e) (events p calls) n → Listed e.before e.asked e.answer
listed_along p calls r n e =
    at_some (λ x. x ≡ e) (Listed e.before e.asked e.answer)
    (λ p x r h. subst (λ (e : Event). Listed e.before e.asked e.answer) h (listed_call p x r)) p calls r n
