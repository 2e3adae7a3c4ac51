-- Refusal 15 in place: no test and no check before the action has this number, so it is the move of a busy sweep, which puts its client to rest and writes
-- nothing else. Assumes nothing.
use mathlib.Core.Path.{◌≡◌, refl, ap, ◌∙◌}
use mathlib.Core.Logic.{◌≢◌, inl, inr}
use Prim.Native.Nat.{ℕ}
use Rattle.pool.specs.State.{resting, client}
use Rattle.pool.specs.Answers.{refusal_of}
use Rattle.pool.specs.Apply.{apply}
use Rattle.pool.specs.Calls.{caller}
use Rattle.pool.specs.declared.Answer.TheVariants.{Refused}
use Rattle.pool.specs.declared.Call.{Call}
use Rattle.pool.specs.declared.Call.TheVariants.{Begin, Step, Release}
use Rattle.pool.specs.declared.Counted.TheVariants.{Refusal}
use Rattle.pool.specs.declared.Move.{Move}
use Rattle.pool.specs.declared.Pool.{Pool}
use Rattle.pool.specs.declared.Write.TheVariants.{Keep}
use Rattle.laws.specs.Choices.{by_test}
use Rattle.invariant.proofs.Allowed.{turned_by_lem}
use Rattle.invariant.proofs.StageTests.{differ}
use Rattle.guarantee.specs.Claims.{with_client}
use Rattle.guarantee.proofs.TurnedDown.{other_answer, refused_by, rests}
use Rattle.memory.specs.Memory.{memory_after, store_after}
use Rattle.memory.specs.Orders.{first_either, order_either}
use Rattle.memory.specs.Requests.{Request, Asks, ReadByte, WriteByte, State, Result, outside_at, byte_refusal, action_on}
use Rattle.in_place.specs.Held.{Held, held_refusal, held_of, byte_held_refusal, byte_held, held_on}
use Rattle.held_claims.specs.HeldClaims.{RestsBusy, ClaimBusy}

-- ---- no call is turned down by 15

outside_not_15 : (n : ℕ) (call : Call) → outside_at n call ≢ 15
unfolding outside_at
outside_not_15 n (Begin c g) = by_test (λ (i : ℕ). i ≢ 15) (λ _. differ 0 15 tt) (λ _. differ 16 15 tt)
outside_not_15 n (Step c) = differ 0 15 tt
outside_not_15 n (Release c g) = differ 0 15 tt

byte_not_15 : (n g o : ℕ) → byte_refusal n g o ≢ 15
unfolding byte_refusal
byte_not_15 n g o =
    by_test (λ (i : ℕ). i ≢ 15) (λ _. by_test (λ (i : ℕ). i ≢ 15) (λ _. differ 0 15 tt) (λ _. differ 17 15 tt)) (λ _. differ 16 15 tt)

held_not_15 : (p : Pool) (n : ℕ) (call : Call) → held_refusal p n call ≢ 15
unfolding held_refusal
held_not_15 p n call =
    by_test (λ (i : ℕ). i ≢ 15) (λ _. order_either _ _ (λ (i : ℕ). i ≢ 15) (turned_by_lem p call).0 (outside_not_15 n call)) (λ _. differ 8 15 tt)

byte_held_not_15 : (x : State) (c g o : ℕ) → byte_held_refusal x c g o ≢ 15
unfolding byte_held_refusal
byte_held_not_15 x c g o =
    by_test (λ (i : ℕ). i ≢ 15)
    (λ _. first_either _ _ (λ (i : ℕ). i ≢ 15) (turned_by_lem x.pool (Release c g)).0 (byte_not_15 x.memory.pages g o))
    (λ _. differ 8 15 tt)

-- ---- the calls

-- what a call that is refused by 15 comes to
abbrev Busy : Pool → Call → Held → Type 0
Busy p call h =
    (c : ℕ) × (call ≡ Step c) × (h.write ≡ Keep) × (h.pool ≡ with_client p c (resting (client p c).held)) × (h.counted ≡ Refusal)

held_busy : (p : Pool) (n : ℕ) (call : Call) → (held_of p n call).answer ≡ Refused 15 → Busy p call (held_of p n call)
unfolding held_of refusal_of caller
held_busy p n call =
    by_test (λ (h : Held). h.answer ≡ Refused 15 → Busy p call h)
    (λ _ e. elim (refused_by p call 15 e) [
      | inl q ↦ absurd (differ 15 8 tt q)
      | inr w ↦ (
        w.0,
        w.1,
        ap (λ (m : Move). m.write) w.2,
        (λ i. apply p (caller (w.1 i)) (w.2 i)) ∙ rests p w.0,
        ap (λ (m : Move). m.counted) w.2,
      )
    ])
    (λ _ e. absurd (held_not_15 p n call (ap refusal_of e)))

abbrev Rests : State → Request → Result → Type 0
Rests x r o = o.answer ≡ Refused 15 → RestsBusy x r o

bytes_not : (x : State) (r : Request) (n : ℕ) → n ≢ 15 → ((action_on x r).answer ≡ Refused 15 → ⊥) → Rests x r (byte_held x r n)
unfolding refusal_of
bytes_not x r n z f = by_test (Rests x r) (λ _ e. absurd (f e)) (λ _ e. absurd (z (ap refusal_of e)))

pub busy : ClaimBusy
unfolding held_on memory_after store_after action_on refusal_of
busy x (Asks call) =
    by_test (Rests x (Asks call))
    (λ _ e.
    let b = held_busy x.pool x.memory.pages call e in
    (b.0, ap Asks b.1, rw (b.2, b.3) refl, b.4))
    (λ _ e. absurd (differ 8 15 tt (ap refusal_of e)))
busy x (ReadByte c g o) = bytes_not x (ReadByte c g o) (byte_held_refusal x c g o) (byte_held_not_15 x c g o) (λ e. other_answer e tt)
busy x (WriteByte c g o v) = bytes_not x (WriteByte c g o v) (byte_held_refusal x c g o) (byte_held_not_15 x c g o) (λ e. other_answer e tt)
