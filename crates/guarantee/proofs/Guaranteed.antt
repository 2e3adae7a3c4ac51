-- All that `Claims.antt` states, put together: a pool that was set up is reached, every pool after it is, and each claim holds from any reached pool
-- on. Assumes nothing.
use mathlib.Core.Path.{◌≡◌}
use mathlib.Core.Bool.{true}
use Prim.Native.Nat.{ℕ, ◌<◌}
use native.Mathlib.Omega.{arith}
use Rattle.pool.specs.State.{total, client}
use Rattle.pool.specs.Frames.{free_frame}
use Rattle.pool.specs.Valid.{valid}
use Rattle.pool.specs.declared.Pool.{Pool}
use Rattle.invariant.proofs.Reached.{Reached}
use Rattle.invariant.proofs.After.{client_here}
use Rattle.invariant.proofs.Setup.{first_rests, first_reached}
use Rattle.invariant.proofs.Valid.{valid_reached}
use Rattle.invariant.proofs.NeverFails.{finds}
use Rattle.guarantee.specs.Claims.{OneEach, OneCopy, HeldPinned, FewPins, ClaimPoint3, ClaimAnswers, Guarantee}
use Rattle.guarantee.proofs.Along.{throughout}
use Rattle.guarantee.proofs.Frames.{held_pinned}
use Rattle.guarantee.proofs.Copies.{one_each, one_copy, no_held_evicted}
use Rattle.guarantee.proofs.Sequence.{sequential}
use Rattle.guarantee.proofs.Sum.{sum}
use Rattle.guarantee.proofs.Drops.{drops}
use Rattle.guarantee.proofs.Once.{taken_out_once}
use Rattle.guarantee.proofs.OneEffect.{one_effect}
use Rattle.guarantee.proofs.Alone.{refused_alone}
use Rattle.guarantee.proofs.BusySweep.{busy_sweep}
use Rattle.guarantee.proofs.Listed.{listed, listed_along}
use Rattle.guarantee.proofs.GrantLists.{grant_lists}
use Rattle.guarantee.proofs.TurnedDown.{same_stage, turned_down_lem, refused}
use Rattle.guarantee.proofs.Limits.{limits}
use Rattle.guarantee.proofs.Holdings.{holdings, held_once}
use Rattle.guarantee.proofs.Lasts.{lasts}
use Rattle.guarantee.proofs.StepBounds.{bounds}
use Rattle.guarantee.proofs.Progress.{gets_through}

point3 : ClaimPoint3
point3 p u calls =
    let r = first_reached u in
    record {
      grants = grant_lists p u calls;
      one_each = throughout OneEach one_each p calls r;
      one_copy = throughout OneCopy one_copy p calls r;
      no_held_evicted = no_held_evicted p calls r;
      held_pinned = throughout HeldPinned held_pinned p calls r;
      few_pins = throughout FewPins (λ q s f. omega (arith, s.ranges.pins_ok f)) p calls r;
      taken_out_once = taken_out_once p calls r;
      sequential = sequential u calls;
      one_effect = one_effect p calls r (λ c. same_stage (first_rests u c));
      refused_alone = refused_alone p calls r;
    }

-- a client past the last one rests, and so does not stand at 4
pub finds_frame : (p : Pool) → Reached p → (d : ℕ) → (client p d).stage ≡ 4 → free_frame p < total p
finds_frame p r d at4 = finds p r d (client_here p (λ k. k.stage ≡ 4) d at4 (λ e. let z : ◌≡◌ {A = ℕ} 0 4 = e in omega arith)) at4

answers : ClaimAnswers
answers p u calls =
    let r = first_reached u in
    record {
      in_range = throughout (λ q. valid q ≡ true) valid_reached p calls r;
      finds = throughout (λ q. (d : ℕ) → (client q d).stage ≡ 4 → free_frame q < total q) finds_frame p calls r;
      listed = listed_along p calls r;
    }

pub guarantee : Guarantee
guarantee =
    record {
      point3 = point3;
      listed = listed;
      answers = answers;
      turned_down = turned_down_lem;
      refused = refused;
      busy_sweep = busy_sweep;
      drops = drops;
      sum = sum;
      limits = limits;
      holdings = holdings;
      held_once = held_once;
      lasts = λ p u calls. lasts p calls (first_reached u);
      bounds = bounds;
      progress = λ p u calls. gets_through p calls (first_reached u);
    }
