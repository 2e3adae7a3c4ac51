-- What the code of a call's turn answers: the move, where nothing turns the call down, and else why it is turned down. Assumes nothing.
use Rattle.std.specs.Prelude.{◌≡◌, ℕ, ◌<◌, Result, Ok, Err, MatchResult, unwrap_or}
use Rattle.std.proofs.Common.{sym, ◌∙◌, ap, arith, lt-ltb}
use Rattle.pool.specs.State.{none, number_of_clients, client}
use Rattle.pool.specs.Frames.{free_frame}
use Rattle.pool.specs.Moves.{still}
use Rattle.pool.specs.Calls.{caller, refusal_at, turned_by, move_of}
use Rattle.pool.specs.declared.Pool.{Pool}
use Rattle.pool.specs.declared.Call.{Call}
use Rattle.pool.specs.declared.Client.{Client}
use Rattle.pool.specs.declared.Move.{Move}
use Rattle.laws.specs.Choices.{chosen}
use Rattle.actions.specs.declared.actor.View.{View}
use Rattle.answers.specs.declared.refusal.Refusal.{Refusal}
use Rattle.answers.specs.Numbers.{refusal_number, some_refusal}
use Rattle.play.specs.Turn.{Turns, turn, moves, turned_down}

-- SPECIFICATION 3.7, of refusals 10 to 13 and 18 and a client k that calls
abbrev pub Answers : Pool → Call → Client → Result Move Refusal → Type 0
Answers p call k r = MatchResult r (λ m. (refusal_at p k call ≡ 0) × (m ≡ move_of p call)) (λ e. refusal_at p k call ≡ refusal_number e)

-- SPECIFICATION 3.7, of these and 9
abbrev pub Decides : Pool → Call → Result Move Refusal → Type 0
Decides p call r = MatchResult r (λ m. (turned_by p call ≡ 0) × (m ≡ move_of p call)) (λ e. turned_by p call ≡ refusal_number e)

-- k is the record of client c
abbrev pub IsClient : Pool → ℕ → Client → Type 0
IsClient p c k = client p c ≡ k

-- what a view shows is true of pool p
pub record Acts (p : Pool) (v : View) : Type 0 where
  pub client : IsClient p v.number v.client
  pub fresh : v.client.stage ≡ 4 → unwrap_or v.fresh none ≡ free_frame p

-- the same, but that there may be no such client
pub record Asks (p : Pool) (v : View) : Type 0 where
  pub client : v.number < number_of_clients p → IsClient p v.number v.client
  pub fresh : v.client.stage ≡ 4 → unwrap_or v.fresh none ≡ free_frame p

-- ---- a client that there is: 9 does not turn its call down

pub past_9 : (p : Pool) (call : Call) (k : Client) → caller call < number_of_clients p → IsClient p (caller call) k → turned_by p call ≡ refusal_at p k call
past_9 p call k h e = chosen _ _ _ (lt-ltb _ _ h) ∙ ap (λ k. refusal_at p k call) e

pub decided : (p : Pool) (call : Call) (k : Client) (r : Result Move Refusal) → caller call < number_of_clients p → IsClient p (caller call) k →
    Answers p call k r → Decides p call r
decided p call k (Ok m) h e a = (past_9 p call k h e ∙ a.0, a.1)
decided p call k (Err x) h e a = past_9 p call k h e ∙ a

pub answers : (p : Pool) (call : Call) (k : Client) (r : Result Move Refusal) → caller call < number_of_clients p → IsClient p (caller call) k →
    Decides p call r → Answers p call k r
answers p call k (Ok m) h e d = (sym (past_9 p call k h e) ∙ d.0, d.1)
answers p call k (Err x) h e d = sym (past_9 p call k h e) ∙ d

-- ---- the turn

-- the move of a turn: where the call is turned down, the client's record is put back as it was
abbrev pub move_by : Client → Result Move Refusal → Move
move_by k (Ok m) = m
move_by k (Err e) = still k (refusal_number e)

-- the turn is the one of the definition
pub is_turn : {p : Pool} {call : Call} {c : ℕ} {k : Client} {taken : ℕ} (r : Result Move Refusal) → Turns p call c k taken → Decides p call r →
    move_by k r ≡ turn p call
is_turn {p} {call} (Ok m) t d = d.1 ∙ sym (moves p call d.0)
is_turn (Err e) t d = turned_down t (refusal_number e) d (λ z. let some = some_refusal e in let y : ⊥ = omega (arith, z, some) in y)
