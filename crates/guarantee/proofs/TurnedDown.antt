-- A call of any pool, a handed one too, is turned down and changes nothing, or is one move of its client (`turned_or_move`). The moves that are refused
-- are refusal 15, after which its client rests and nothing else has changed, and stuck ones, which are answered by 8 and change nothing. Assumes nothing.
use mathlib.Core.Path.{◌≡◌, refl, sym, ap, ◌∙◌}
use mathlib.Core.Logic.{◌≢◌, ◌⊎◌, inl, inr}
use mathlib.Core.Bool.{not}
use Prim.Native.Nat.{ℕ}
use native.Mathlib.Omega.{arith}
use lib.Dec.{T, eqb}
use borrow.Author.Tests.{eqb-true, eqb-false, not-true}
use Rattle.pool.specs.Answers.{refusal_of}
use Rattle.pool.specs.State.{resting, number_of_clients, client}
use Rattle.pool.specs.Moves.{refused15, stuck}
use Rattle.pool.specs.Apply.{slots_after, pages_after, pins_after, counts_after, entry_pages_after, entry_frames_after, hand_after, free_after, last_after}
use Rattle.pool.specs.Apply.{grant_pages_after, grant_frames_after, apply}
use Rattle.pool.specs.Calls.{turned_down, caller, refusal, release_move, move_of, finished, call_of}
use Rattle.pool.specs.declared.Pool.{Pool}
use Rattle.pool.specs.declared.Client.{Client}
use Rattle.pool.specs.declared.Move.{Move}
use Rattle.pool.specs.declared.Outcome.{Outcome}
use Rattle.pool.specs.declared.Counted.TheVariants.{Nothing}
use Rattle.pool.specs.declared.Call.{Call}
use Rattle.pool.specs.declared.Call.TheVariants.{Begin, Step, Release}
use Rattle.pool.specs.declared.Answer.{Answer}
use Rattle.pool.specs.declared.Answer.TheVariants.{Done, Working, Granted, Refused}
use Rattle.laws.specs.Choices.{by_test}
use Rattle.laws.specs.Scans.{both_true}
use Rattle.invariant.proofs.StageTests.{differ}
use Rattle.invariant.proofs.Allowed.{refusal_not_15}
use Rattle.invariant.proofs.Calls.{outcome_of}
use Rattle.guarantee.specs.Claims.{ClaimTurnedDown, with_client, RestsRefused, ClaimRefused}
use Rattle.laws.specs.StageAnswers.{StageAnswer, goes, grants, refuses, sticks, stage_answer}

-- ---- answers and calls of different kinds

abbrev answer_kind : Answer → ℕ
answer_kind (Done n) = 0
answer_kind (Working n) = 1
answer_kind (Granted n) = 2
answer_kind (Refused n) = 3

abbrev call_kind : Call → ℕ
call_kind (Begin c g) = 0
call_kind (Step c) = 1
call_kind (Release c g) = 2

pub other_answer : {A : Type 0} {a b : Answer} → a ≡ b → T (not (eqb (answer_kind a) (answer_kind b))) → A
other_answer {A} {a} {b} e h = absurd (differ (answer_kind a) (answer_kind b) h (ap answer_kind e))

pub other_call : {A : Type 0} {a b : Call} → a ≡ b → T (not (eqb (call_kind a) (call_kind b))) → A
other_call {A} {a} {b} e h = absurd (differ (call_kind a) (call_kind b) h (ap call_kind e))

-- ---- parts of equal outcomes, equal clients

pub same_answer : {o r : Outcome} → o ≡ r → o.answer ≡ r.answer
same_answer e = ap (λ (o : Outcome). o.answer) e

pub same_pool : {o r : Outcome} → o ≡ r → o.pool ≡ r.pool
same_pool e = ap (λ (o : Outcome). o.pool) e

pub same_stage : {k n : Client} → k ≡ n → k.stage ≡ n.stage
same_stage e = ap (λ (k : Client). k.stage) e

-- ---- a call is turned down, or is one move

abbrev pub moved : Pool → Call → Outcome
moved p x = outcome_of p (caller x) (move_of p x)

-- by a check before its action, or by 8 after it
abbrev TurnedDownBy : Pool → Call → ℕ → Type 0
TurnedDownBy p x n = ((refusal p x ≡ n) × (n ≢ 0)) ⊎ (n ≡ 8)

pub data TurnedOrMove (p : Pool) (x : Call) (o : Outcome) : Type 0 where
  turned : (n : ℕ) → TurnedDownBy p x n → o ≡ turned_down n p → TurnedOrMove p x o
  one_move : refusal p x ≡ 0 → refusal_of (move_of p x).answer ≢ 8 → o ≡ moved p x → TurnedOrMove p x o

pub turned_or_move : (p : Pool) (x : Call) → TurnedOrMove p x (call_of p x)
unfolding call_of finished
turned_or_move p x =
    by_test (TurnedOrMove p x)
    (λ t. by_test (TurnedOrMove p x)
    (λ v. one_move (eqb-true _ _ t) (eqb-false _ _ (not-true _ (both_true _ _ v).0)) refl)
    (λ _. turned 8 (inr refl) refl))
    (λ t. turned (refusal p x) (inl (refl, eqb-false _ _ t)) refl)

-- so the numbers of the setup stay
pub same_numbers : (f : ℕ → ℕ → ℕ → ℕ) (p : Pool) (x : Call)
    → let q = (call_of p x).pool in
    f q.size (number_of_clients q) q.cap ≡ f p.size (number_of_clients p) p.cap
unfolding apply
same_numbers f p x =
    let numbers : (Outcome → ℕ) = λ o. f o.pool.size (number_of_clients o.pool) o.pool.cap in
    elim (turned_or_move p x) [ turned _ _ e ↦ ap numbers e | one_move _ _ e ↦ ap numbers e ]

pub turned_down_not_15 : (p : Pool) (x : Call) (n : ℕ) → TurnedDownBy p x n → n ≢ 15
turned_down_not_15 p x n (inl r) z = refusal_not_15 p x (r.0 ∙ z)
turned_down_not_15 p x n (inr r) z = omega arith

-- ---- a move that is refused

-- a release is done, or stuck
pub data DoneOrStuck (k : Client) (g : ℕ) (m : Move) : Type 0 where
  is_done : m.answer ≡ Done g → m.next.stage ≡ k.stage → DoneOrStuck k g m
  is_stuck : m ≡ stuck k → DoneOrStuck k g m

pub done_or_stuck : (p : Pool) (c g : ℕ) → DoneOrStuck (client p c) g (move_of p (Release c g))
unfolding move_of release_move
done_or_stuck p c g = by_test (DoneOrStuck (client p c) g) (λ _. is_stuck refl) (λ _. is_done refl refl)

abbrev pub RefusedBy : Pool → Call → ℕ → Type 0
RefusedBy p x n = (n ≡ 8) ⊎ ((c : ℕ) × (x ≡ Step c) × (move_of p x ≡ refused15 (client p c)))

pub refused_by : (p : Pool) (x : Call) (n : ℕ) → (move_of p x).answer ≡ Refused n → RefusedBy p x n
unfolding move_of refusal_of
refused_by p (Begin c g) n a = other_answer a tt
refused_by p (Step c) n a = go (stage_answer p (client p c))
  where
    go : StageAnswer (client p c) (move_of p (Step c)) → RefusedBy p (Step c) n
    go (goes j _ e _) = other_answer (sym e ∙ a) tt
    go (grants f _ _ e _) = other_answer (sym e ∙ a) tt
    go (refuses e) = inr (c, refl, e)
    go (sticks e) = inl (ap refusal_of (sym a ∙ ap (λ (m : Move). m.answer) e))
refused_by p (Release c g) n a = go (done_or_stuck p c g)
  where
    go : DoneOrStuck (client p c) g (move_of p (Release c g)) → RefusedBy p (Release c g) n
    go (is_done e _) = other_answer (sym e ∙ a) tt
    go (is_stuck e) = inl (ap refusal_of (sym a ∙ ap (λ (m : Move). m.answer) e))

-- ---- the claims

pub turned_down_lem : ClaimTurnedDown
unfolding refusal_of
turned_down_lem p x n a z = go (turned_or_move p x)
  where
    go : TurnedOrMove p x (call_of p x) → ((call_of p x).pool ≡ p) × ((call_of p x).counted ≡ Nothing)
    go (turned m _ e) = (same_pool e, ap (λ (o : Outcome). o.counted) e)
    go (one_move _ e8 e) =
        let r : (move_of p x).answer ≡ Refused n = sym (same_answer e) ∙ a in
        absurd (elim (refused_by p x n r) [ inl q ↦ e8 (ap refusal_of r ∙ q) | inr w ↦ z (ap refusal_of (sym r ∙ ap (λ (m : Move). m.answer) w.2)) ])

-- the move of refusal 15 writes nothing that the clients share
pub rests : (p : Pool) (c : ℕ) → apply p c (refused15 (client p c)) ≡ with_client p c (resting (client p c).held)
unfolding apply slots_after pages_after pins_after counts_after entry_pages_after entry_frames_after hand_after free_after last_after grant_pages_after grant_frames_after
rests p c = refl

pub refused : ClaimRefused
unfolding refusal_of caller
refused p x a = go (turned_or_move p x)
  where
    go : TurnedOrMove p x (call_of p x) → RestsRefused p x
    go (turned m w e) = absurd (turned_down_not_15 p x m w (ap refusal_of (sym (same_answer e) ∙ a)))
    go (one_move _ _ e) =
        elim (refused_by p x 15 (sym (same_answer e) ∙ a)) [
          | inl q ↦ absurd (omega arith)
          | inr w ↦
              let counts = ap (λ (o : Outcome). o.counted) e ∙ ap (λ (m : Move). m.counted) w.2 in
              (w.0, w.1, same_pool e ∙ (λ i. apply p (caller (w.1 i)) (w.2 i)) ∙ rests p w.0, counts)
        ]
