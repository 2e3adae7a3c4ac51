-- The numbers that turn a call down, 0 for none: what holds of each of them holds of the one that the checks find. So who wants to know something of
-- them need not look at the order of the checks. Assumes nothing.
use Rattle.std.specs.Prelude.{ℕ}
use Rattle.pool.specs.State.{client}
use Rattle.pool.specs.Calls.{caller, refusal_at, turned_by, refusal}
use Rattle.pool.specs.declared.Pool.{Pool}
use Rattle.pool.specs.declared.Client.{Client}
use Rattle.pool.specs.declared.Call.{Call}
use Rattle.pool.specs.declared.Call.TheVariants.{Begin, Step, Release}
use Rattle.laws.specs.Choices.{by_test}

module _ (P : ℕ → Type 0) (p : Pool) where
  -- 9 and 8, before those of the call's kind
  pub by_turn : (call : Call) → P 9 → P (refusal_at p (client p (caller call)) call) → P (turned_by p call)
  by_turn call nobody its = by_test P (λ _. its) (λ _. nobody)

  pub by_check : (call : Call) → P 8 → P (turned_by p call) → P (refusal p call)
  unfolding refusal
  by_check call unsound turned = by_test P (λ _. turned) (λ _. unsound)

  module _ (k : Client) (c : ℕ) where
    pub at_begin : (g : ℕ) → P 0 → P 10 → P 12 → P 18 → P (refusal_at p k (Begin c g))
    unfolding refusal_at
    at_begin g none at_work full held = by_test P (λ _. by_test P (λ _. by_test P (λ _. none) (λ _. held)) (λ _. full)) (λ _. at_work)

    pub at_step : P 0 → P 11 → P (refusal_at p k (Step c))
    unfolding refusal_at
    at_step none at_rest = by_test P (λ _. at_rest) (λ _. none)

    pub at_release : (g : ℕ) → P 0 → P 10 → P 13 → P (refusal_at p k (Release c g))
    unfolding refusal_at
    at_release g none at_work not_held = by_test P (λ _. by_test P (λ _. not_held) (λ _. none)) (λ _. at_work)
