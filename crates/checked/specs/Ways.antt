-- The ways that a call of a valid pool goes, each by what the code has tested of its turn. Assumes nothing.
use Rattle.std.specs.Prelude.{◌≡◌, refl, ◌≢◌, ◌⊎◌, Bool, true, false, ℕ, eqb}
use Rattle.std.proofs.Common.{sym, ◌∙◌, inl, inr, arith, eq-eqb, ne_eqb, true≢false}
use Rattle.std.proofs.Math.Path.{ap}
use Rattle.std.proofs.Math.Bool.{not}
use Rattle.std.proofs.Math.Decide.{ℕ_discrete}
use Rattle.pool.specs.Choose.{choose, both, either}
use Rattle.pool.specs.Answers.{refusal_of}
use Rattle.pool.specs.State.{number_of_clients, client}
use Rattle.pool.specs.Apply.{apply}
use Rattle.pool.specs.Valid.{valid}
use Rattle.pool.specs.Calls.{caller, turned_down, turned_by, release_move, move_of, finished, call_of}
use Rattle.pool.specs.declared.Call.{Call}
use Rattle.pool.specs.declared.Call.TheVariants.{Begin, Step, Release}
use Rattle.pool.specs.declared.Client.{Client}
use Rattle.pool.specs.declared.Move.{Move}
use Rattle.pool.specs.declared.Outcome.{Outcome}
use Rattle.pool.specs.declared.Pool.{Pool}
use Rattle.pool.specs.declared.Write.{Write}
use Rattle.pool.specs.declared.Write.TheVariants.{Keep}
use Rattle.pool.specs.declared.Answer.{Answer}
use Rattle.pool.specs.declared.Answer.TheVariants.{Refused}
use Rattle.pool.specs.declared.Counted.TheVariants.{Nothing}
use Rattle.laws.specs.Choices.{by_test, chosen, passed}
use Rattle.laws.specs.StageAnswers.{StageAnswer, goes, grants, refuses, sticks, stage_answer}
use Rattle.memory.specs.Requests.{refused, write_of}
use Rattle.play.specs.Turn.{client_or_first, turn, played, as_played, its_number, is_client, moves, stays}
use Rattle.play.specs.Calls.{turned_down_by, as_turn}
use Rattle.checked.specs.Copies.{copy_of, as_copied}
use Rattle.checked.specs.declared.Made.{Made}

-- ---- what a call leaves and what it wrote

abbrev pub unmade_by : ℕ → Pool → Made
unmade_by n p = record { answer = Refused n; counted = Nothing; write = Keep; pool = p }

abbrev pub made_of : Pool → Call → Made
made_of p call = let o = call_of p call in record { answer = o.answer; counted = o.counted; write = write_of p call; pool = o.pool }

-- what is returned of it where what was written is not asked for
pub without_write : (p : Pool) (call : Call) {m : Made} → m ≡ made_of p call
    → record { answer = m.answer; counted = m.counted; pool = m.pool } ≡ call_of p call
without_write p call e = ap (λ (m : Made). record { answer = m.answer; counted = m.counted; pool = m.pool }) e

-- a call that is turned down wrote nothing
pub as_unmade : (p : Pool) (call : Call) (n : ℕ) → call_of p call ≡ turned_down n p → unmade_by n p ≡ made_of p call
unfolding write_of refused choose
as_unmade p call n e = rw e

-- ---- by which numbers a move is refused

-- SPECIFICATION 3.9: whether an action may have changed something: it is not refused, or by 15, which leaves what its client did
abbrev pub with_refusal : ℕ → Bool
with_refusal n = either (eqb n 0) (eqb n 15)

unfoldable pub acts : Answer → Bool
acts a = with_refusal (refusal_of a)

abbrev MoveRefusal : ℕ → Type 0
MoveRefusal n = (n ≡ 0) ⊎ (n ≡ 8) ⊎ (n ≡ 15)

stage_refusal : {k : Client} {m : Move} → StageAnswer k m → MoveRefusal (refusal_of m.answer)
unfolding refusal_of
stage_refusal (goes j l a n) = inl (ap refusal_of a)
stage_refusal (grants f g e a n) = inl (ap refusal_of a)
stage_refusal (refuses e) = inr (inr (ap (λ (m : Move). refusal_of m.answer) e))
stage_refusal (sticks e) = inr (inl (ap (λ (m : Move). refusal_of m.answer) e))

move_refusal : (p : Pool) (call : Call) → MoveRefusal (refusal_of (move_of p call).answer)
unfolding move_of release_move refusal_of
move_refusal p (Begin c g) = inl refl
move_refusal p (Step c) = stage_refusal (stage_answer p (client p c))
move_refusal p (Release c g) = by_test (λ (m : Move). MoveRefusal (refusal_of m.answer)) (λ _. inr (inl refl)) (λ _. inl refl)

-- ---- what the turn of a call wrote

-- a move that is refused writes nothing
pub data Wrote (m : Move) : Type 0 where
  answers : refused m.answer ≡ false → Wrote m
  nothing : m.write ≡ Keep → Wrote m

stage_wrote : {k : Client} {m : Move} → StageAnswer k m → Wrote m
unfolding refusal_of refused
stage_wrote (goes j l a n) = answers (ap refused a)
stage_wrote (grants f g e a n) = answers (ap refused a)
stage_wrote (refuses e) = nothing (ap (λ (m : Move). m.write) e)
stage_wrote (sticks e) = nothing (ap (λ (m : Move). m.write) e)

pub move_wrote : (p : Pool) (call : Call) → Wrote (move_of p call)
unfolding move_of release_move refused refusal_of
move_wrote p (Begin c g) = answers refl
move_wrote p (Step c) = stage_wrote (stage_answer p (client p c))
move_wrote p (Release c g) = by_test Wrote (λ _. nothing refl) (λ _. answers refl)

either_way : (t : Bool) → choose t Keep Keep ≡ Keep
unfolding choose
either_way true = refl
either_way false = refl

by_move : {m : Move} → Wrote m → choose (refused m.answer) Keep m.write ≡ m.write
unfolding refused choose
by_move (answers e) = rw e
by_move {m} (nothing e) = rw e (either_way (refused m.answer))

pub move_writes : (p : Pool) (call : Call) → choose (refused (move_of p call).answer) Keep (move_of p call).write ≡ (move_of p call).write
move_writes p call = by_move (move_wrote p call)

pub turn_wrote : (p : Pool) (call : Call) → choose (refused (turn p call).answer) Keep (move_of p call).write ≡ (turn p call).write
unfolding refused choose
turn_wrote p call = go (ℕ_discrete (turned_by p call) 0)
  where
    go : Dec (turned_by p call ≡ 0) → choose (refused (turn p call).answer) Keep (move_of p call).write ≡ (turn p call).write
    go (yes z) = rw (moves p call z) (move_writes p call)
    go (no z) = rw (stays p call z)

-- ---- the ways

module _ (p : Pool) (call : Call) (v : valid p ≡ true) where
  stuck : refusal_of (turn p call).answer ≡ 8 → call_of p call ≡ turned_down 8 p
  unfolding finished both
  stuck e = as_turn p call v ∙ passed _ _ _ (passed _ _ _ (ap not (eq-eqb _ _ e)))

  -- a turn that is refused by another number than 15 changes nothing
  pub nothing_changes : (n : ℕ) → n ≡ refusal_of (turn p call).answer → n ≢ 0 → n ≢ 15 → call_of p call ≡ turned_down n p
  unfolding refusal_of
  nothing_changes n e some not_15 = go (ℕ_discrete (turned_by p call) 0)
    where
      by_number : MoveRefusal n → call_of p call ≡ turned_down n p
      by_number (inl z) = absurd (some z)
      by_number (inr (inl z)) = stuck (sym e ∙ z) ∙ ap (λ (n : ℕ). turned_down n p) (sym z)
      by_number (inr (inr z)) = absurd (not_15 z)

      go : Dec (turned_by p call ≡ 0) → call_of p call ≡ turned_down n p
      go (yes z) = by_number (rw (e, moves p call z) (move_refusal p call))
      go (no z) = turned_down_by p call v z ∙ ap (λ (n : ℕ). turned_down n p) (sym (e ∙ ap (λ (m : Move). refusal_of m.answer) (stays p call z)))

  module _ (not_8 : refusal_of (turn p call).answer ≢ 8) where
    tested : {b : Bool} → valid (played p call).pool ≡ b → both (not (eqb (refusal_of (turn p call).answer) 8)) (valid (played p call).pool) ≡ b
    unfolding both
    tested w = chosen _ _ _ (ap not (ne_eqb _ _ not_8)) ∙ w

    pub breaks : valid (played p call).pool ≡ false → call_of p call ≡ turned_down 8 p
    unfolding finished
    breaks w = as_turn p call v ∙ passed _ _ _ (tested w)

    pub keeps : valid (played p call).pool ≡ true → call_of p call ≡ played p call
    unfolding finished
    keeps w = as_turn p call v ∙ chosen _ _ _ (tested w)

    -- what was written is what the turn wrote
    pub as_made : valid (played p call).pool ≡ true → copy_of p call ≡ made_of p call
    unfolding write_of
    as_made w = rw (keeps w) (ap (λ (x : Write). record {
      answer = (played p call).answer;
      counted = (played p call).counted;
      write = x;
      pool = (played p call).pool;
    }) (sym (turn_wrote p call)))

  -- ---- as the code has tested them

  pub by_turn : (n : ℕ) → turned_by p call ≡ n → n ≢ 0 → call_of p call ≡ turned_down n p
  by_turn n e some = turned_down_by p call v (λ z. some (sym e ∙ z)) ∙ ap (λ (k : ℕ). turned_down k p) e

  -- of a call that nothing turns down
  module _ (z : turned_by p call ≡ 0) where
    abbrev pub after : Outcome
    after = let m = move_of p call in record { answer = m.answer; counted = m.counted; pool = apply p (caller call) m }

    -- its turn is its move, and the client that is looked at is the one that calls
    is_move : move_of p call ≡ turn p call
    is_move = sym (moves p call z)

    is_caller : caller call ≡ client_or_first (number_of_clients p) (caller call)
    is_caller = sym (its_number _ _ (is_client p call z))

    after_turn : after ≡ played p call
    after_turn = as_played p call is_caller is_move refl

    its_refusal : refusal_of (move_of p call).answer ≡ refusal_of (turn p call).answer
    its_refusal = ap (λ (m : Move). refusal_of m.answer) is_move

    its_check : {b : Bool} → valid after.pool ≡ b → valid (played p call).pool ≡ b
    its_check w = sym (ap (λ (o : Outcome). valid o.pool) after_turn) ∙ w

    -- a move that is refused by another number than 15 is so by 8, and changes nothing
    pub stops : acts (move_of p call).answer ≡ false → call_of p call ≡ turned_down 8 p
    unfolding acts either choose
    stops e = go (move_refusal p call)
      where
        n : ℕ
        n = refusal_of (move_of p call).answer

        go : MoveRefusal n → call_of p call ≡ turned_down 8 p
        go (inl e0) = absurd (true≢false (ap with_refusal (sym e0) ∙ e))
        go (inr (inl e8)) = nothing_changes 8 (sym e8 ∙ its_refusal) (λ y. omega arith) (λ y. omega arith)
        go (inr (inr e15)) = absurd (true≢false (ap with_refusal (sym e15) ∙ e))

    module _ (a : acts (move_of p call).answer ≡ true) where
      not_by_8 : refusal_of (turn p call).answer ≢ 8
      unfolding acts either choose
      not_by_8 e = true≢false (sym a ∙ ap with_refusal (its_refusal ∙ e))

      pub move_breaks : valid after.pool ≡ false → call_of p call ≡ turned_down 8 p
      move_breaks w = breaks not_by_8 (its_check w)

      -- what was written is what the move wrote
      pub move_made : valid after.pool ≡ true
          → record { answer = after.answer; counted = after.counted; write = (move_of p call).write; pool = after.pool } ≡ made_of p call
      move_made w = as_copied p call is_caller is_move refl ∙ as_made not_by_8 (its_check w)
