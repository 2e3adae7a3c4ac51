-- Refused by another number than 15 a call in place changes nothing: it was turned down before its action, or its move is stuck, which puts the client's
-- record back as it was. Assumes nothing.
use mathlib.Core.Path.{◌≡◌, refl, sym, ap, ◌∙◌}
use mathlib.Core.Logic.{◌≢◌}
use mathlib.Core.Bool.{false, true≢false}
use Prim.Native.Nat.{ℕ}
use native.Mathlib.Omega.{arith}
use borrow.Author.Tests.{eqb-true}
use Rattle.pool.specs.State.{client}
use Rattle.pool.specs.Answers.{refusal_of}
use Rattle.pool.specs.Moves.{stuck}
use Rattle.pool.specs.Calls.{caller, turned_by, release_move, move_of}
use Rattle.pool.specs.declared.Answer.{Answer}
use Rattle.pool.specs.declared.Answer.TheVariants.{Refused}
use Rattle.pool.specs.declared.Call.{Call}
use Rattle.pool.specs.declared.Call.TheVariants.{Begin, Step, Release}
use Rattle.pool.specs.declared.Client.{Client}
use Rattle.pool.specs.declared.Counted.TheVariants.{Nothing}
use Rattle.pool.specs.declared.Move.{Move}
use Rattle.pool.specs.declared.Pool.{Pool}
use Rattle.laws.specs.Choices.{by_test}
use Rattle.laws.specs.StageAnswers.{StageAnswer, goes, grants, refuses, sticks, stage_answer}
use Rattle.memory.specs.Memory.{memory_after, store_after}
use Rattle.memory.specs.Orders.{order_none}
use Rattle.memory.specs.Requests.{Request, Asks, ReadByte, WriteByte, State, Result, outside_at, refused, action_on}
use Rattle.play.specs.Turn.{is_client}
use Rattle.play.specs.Calls.{unchanged}
use Rattle.in_place.specs.Held.{Held, turned_away, held_refusal, held_of, held_state, byte_held_refusal, byte_held, held_on}
use Rattle.held_claims.specs.HeldClaims.{ClaimTurnedAway}

-- ---- a move that is refused by another number than 15 is stuck

module _ {n : ℕ} (z : n ≢ 15) where
  answered : {a : Answer} {A : Type 0} → refused a ≡ false → a ≡ Refused n → A
  unfolding refused
  answered f e = absurd (true≢false (sym (ap refused e) ∙ f))

  stuck_stage : {k : Client} {m : Move} → StageAnswer k m → m.answer ≡ Refused n → m ≡ stuck k
  unfolding refused refusal_of
  stuck_stage (goes j l a _) e = answered (ap refused a) e
  stuck_stage (grants f g _ a _) e = answered (ap refused a) e
  stuck_stage (refuses w) e = absurd (z (sym (ap (λ (m : Move). refusal_of m.answer) (sym w) ∙ ap refusal_of e)))
  stuck_stage (sticks w) e = w

  stuck_move : (p : Pool) (call : Call) → (move_of p call).answer ≡ Refused n → move_of p call ≡ stuck (client p (caller call))
  unfolding move_of release_move caller refused
  stuck_move p (Begin c g) e = answered refl e
  stuck_move p (Step c) e = stuck_stage (stage_answer p (client p c)) e
  stuck_move p (Release c g) e =
      by_test (λ (m : Move). m.answer ≡ Refused n → m ≡ stuck (client p c)) (λ _ _. refl) (λ _ w. answered refl w) e

-- ---- the calls

module _ (p : Pool) (n : ℕ) (call : Call) where
  no_turn : held_refusal p n call ≡ 0 → turned_by p call ≡ 0
  unfolding held_refusal
  no_turn =
      by_test (λ (k : ℕ). k ≡ 0 → turned_by p call ≡ 0) (λ _ e. (order_none (turned_by p call) (outside_at n call) e).0) (λ _ e. absurd (let y : ⊥ = omega arith in y))

  away : (k : ℕ) → k ≢ 15 → (held_of p n call).answer ≡ Refused k → held_of p n call ≡ turned_away k p
  unfolding held_of refusal_of
  away k z =
      by_test (λ (h : Held). h.answer ≡ Refused k → h ≡ turned_away k p)
      (λ t e.
      let s = stuck_move z p call e in
      let h = is_client p call (no_turn (eqb-true _ _ t)) in
      let eight : 8 ≡ k = ap (λ (m : Move). refusal_of m.answer) (sym s) ∙ ap refusal_of e in
      rw (s, unchanged p (caller call) 8 h, ← eight))
      (λ _ e. ap (λ (i : ℕ). turned_away i p) (ap refusal_of e))

abbrev Stays : State → ℕ → Result → Type 0
Stays x n o = o.answer ≡ Refused n → (o.state ≡ x) × (o.counted ≡ Nothing)

bytes_stay : (x : State) (r : Request) (k n : ℕ) → refused (action_on x r).answer ≡ false → Stays x n (byte_held x r k)
unfolding refused
bytes_stay x r k n f = by_test (Stays x n) (λ _ e. absurd (true≢false (sym (ap refused e) ∙ f))) (λ _ _. (refl, refl))

pub turned_away_lem : ClaimTurnedAway
unfolding held_on memory_after store_after action_on refused
turned_away_lem x (Asks call) n e z =
    by_test (Stays x n)
    (λ _ w. let s = away x.pool x.memory.pages call n z w in (ap (held_state x) s, ap (λ (h : Held). h.counted) s))
    (λ _ _. (refl, refl)) e
turned_away_lem x (ReadByte c g o) n e z = bytes_stay x (ReadByte c g o) (byte_held_refusal x c g o) n refl e
turned_away_lem x (WriteByte c g o v) n e z = bytes_stay x (WriteByte c g o v) (byte_held_refusal x c g o) n refl e
