-- The invariant over calls: a call of a reached pool that is not turned down makes its move, as that is never stuck and leaves a reached pool, which
-- passes check 8; one that is turned down changes nothing. So every pool that comes from setup and calls is reached. Assumes nothing.
use mathlib.Core.Path.{◌≡◌, refl, sym, ap, subst, ◌∙◌}
use mathlib.Core.Logic.{◌≢◌}
use mathlib.Core.List.{List, [], ◌∷◌}
use Prim.Native.Nat.{ℕ, ◌<◌}
use native.Mathlib.Decide.{ℕ_discrete}
use borrow.Author.Tests.{eq-eqb, ne_eqb}
use Rattle.pool.specs.Answers.{refusal_of}
use Rattle.pool.specs.State.{number_of_clients}
use Rattle.pool.specs.Apply.{apply}
use Rattle.pool.specs.Calls.{turned_down, SetUp, caller, refusal, move_of, finished, call_of, pool_after}
use Rattle.pool.specs.declared.Pool.{Pool}
use Rattle.pool.specs.declared.Call.{Call}
use Rattle.pool.specs.declared.Move.{Move}
use Rattle.pool.specs.declared.Outcome.{Outcome}
use Rattle.laws.specs.Choices.{chosen, passed}
use Rattle.laws.specs.Scans.{both_yes}
use Rattle.invariant.proofs.Reached.{Reached}
use Rattle.invariant.proofs.After.{shape_next}
use Rattle.invariant.proofs.Allowed.{turned_by_lem}
use Rattle.invariant.proofs.Edges.{Edge}
use Rattle.invariant.proofs.Steps.{call_edge}
use Rattle.invariant.proofs.Effects.{NotEnding, Effect, effect}
use Rattle.invariant.proofs.Ranges.{ranges_next}
use Rattle.invariant.proofs.Told.{told}
use Rattle.invariant.proofs.Singles.{singles_next}
use Rattle.invariant.proofs.Places.{places_next}
use Rattle.invariant.proofs.Private.{private_next}
use Rattle.invariant.proofs.PinCounts.{pin_counts_next}
use Rattle.invariant.proofs.Mapping.{mapping_next}
use Rattle.invariant.proofs.Evictions.{evictions_next}
use Rattle.invariant.proofs.Valid.{valid_reached}
use Rattle.invariant.proofs.Setup.{first_reached}

-- ---- a move

reached_move : (p : Pool) (c : ℕ) (m : Move) → c < number_of_clients p → Reached p → Edge p c m → Reached (apply p c m)
reached_move p c m h r e =
    let x : Effect p c m = effect p c h r e in
    record {
      shape = shape_next p c m r.shape;
      ranges = ranges_next e x;
      singles = singles_next x (told p c e);
      places = places_next x;
      private = private_next x;
      pin_counts = pin_counts_next p c r e x;
      mapping = mapping_next p c r e x;
      evictions = evictions_next p c r e x;
    }

-- ---- a call

-- what a call leaves that is the move m of client c
abbrev pub outcome_of : Pool → ℕ → Move → Outcome
outcome_of p c m = record { answer = m.answer; counted = m.counted; pool = apply p c m }

module _ (p : Pool) (x : Call) where
  pub never_ends : Reached p → refusal p x ≡ 0 → NotEnding (refusal_of (move_of p x).answer)
  never_ends r e = let w = call_edge p x r e in (effect p (caller x) w.0 r w.1).not_stuck

  pub never_stuck : Reached p → refusal p x ≡ 0 → refusal_of (move_of p x).answer ≢ 8
  never_stuck r e eight = subst NotEnding eight (never_ends r e)

  pub reached_next : Reached p → refusal p x ≡ 0 → Reached (apply p (caller x) (move_of p x))
  reached_next r e = let w = call_edge p x r e in reached_move p (caller x) (move_of p x) w.0 r w.1

  -- a call that is not turned down makes its move
  pub call_moves : Reached p → refusal p x ≡ 0 → call_of p x ≡ outcome_of p (caller x) (move_of p x)
  unfolding call_of finished
  call_moves r e =
      chosen _ _ _ (eq-eqb _ _ e) ∙
      chosen _ _ _ (both_yes _ _ (rw (ne_eqb (refusal_of (move_of p x).answer) 8 (never_stuck r e))) (valid_reached _ (reached_next r e)))

  -- one that is turned down changes nothing
  pub call_turned_down : (n : ℕ) → refusal p x ≡ n → n ≢ 0 → call_of p x ≡ turned_down n p
  unfolding call_of
  call_turned_down n e z = passed _ _ _ (ne_eqb _ _ (λ w. z (sym e ∙ w))) ∙ ap (λ (n : ℕ). turned_down n p) e

  -- so what holds of its move and of a call that is turned down holds of what it leaves
  pub by_refusal : (P : Outcome → Type 0) → Reached p → (refusal p x ≡ 0 → P (outcome_of p (caller x) (move_of p x)))
      → ((n : ℕ) → refusal p x ≡ n → n ≢ 0 → P (turned_down n p)) → P (call_of p x)
  by_refusal P r moves turns =
      elim (ℕ_discrete (refusal p x) 0) [
        | yes e ↦ subst P (sym (call_moves r e)) (moves e)
        | no z ↦ subst P (sym (call_turned_down (refusal p x) refl z)) (turns (refusal p x) refl z)
      ]

  pub reached_call : Reached p → Reached (call_of p x).pool
  reached_call r = by_refusal (λ o. Reached o.pool) r (reached_next r) (λ _ _ _. r)

  -- 8 is no refusal of a reached pool
  pub refusal_not_8 : Reached p → refusal p x ≢ 8
  unfolding refusal
  refusal_not_8 r e = (turned_by_lem p x).1 (sym (chosen _ _ 8 (valid_reached p r)) ∙ e)

-- ---- lists of calls

pub reached_calls : (p : Pool) (calls : List Call) → Reached p → Reached (pool_after p calls)
unfolding pool_after
reached_calls p [] r = r
reached_calls p (x ∷ calls) r = reached_calls (call_of p x).pool calls (reached_call p x r)

-- THE INVARIANT, of every pool that comes from setup and calls
pub reached_after : {p : Pool} → SetUp p → (calls : List Call) → Reached (pool_after p calls)
reached_after {p} u calls = reached_calls p calls (first_reached u)
