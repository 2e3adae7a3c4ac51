-- What a call has passed that no check turns down: its pool is valid, its client is one of the pool's, and that client rests where it begins or
-- releases, with room for a grant and none of the page, or with one to release, and works where it steps. So of a working client a call is a step. Of
-- every pool, a handed one too. Assumes nothing.
use mathlib.Core.Path.{◌≡◌, refl}
use mathlib.Core.Logic.{◌≢◌}
use mathlib.Core.Bool.{true, not, ◌&&◌}
use Prim.Native.Nat.{ℕ, ◌<◌}
use native.Mathlib.Omega.{arith}
use lib.Dec.{T, eqb}
use borrow.Author.Tests.{eqb-true, eqb-false, ltb-true}
use Rattle.pool.specs.Limits.{max_held}
use Rattle.pool.specs.State.{none, number_of_clients, client}
use Rattle.pool.specs.Grants.{grant_of}
use Rattle.pool.specs.Valid.{valid}
use Rattle.pool.specs.Calls.{caller, refusal_at, turned_by, refusal}
use Rattle.pool.specs.declared.Pool.{Pool}
use Rattle.pool.specs.declared.Client.{Client}
use Rattle.pool.specs.declared.Call.{Call}
use Rattle.pool.specs.declared.Call.TheVariants.{Begin, Step, Release}
use Rattle.laws.specs.Choices.{by_test}
use Rattle.laws.specs.Checks.{by_turn, by_check, at_begin, at_step, at_release}
use Rattle.laws.specs.Scans.{and_parts}
use Rattle.invariant.proofs.StageTests.{differ}

-- the checks after 8 turn down by 9 to 13 or 18: not by 15, which only an action is refused by, and not by 8
abbrev After8 : ℕ → Type 0
After8 n = (n ≢ 15) × (n ≢ 8)

after_8 : (n : ℕ) → T (not (eqb n 15) && not (eqb n 8)) → After8 n
after_8 n t = let both = and_parts (not (eqb n 15)) _ t in (differ n 15 both.0, differ n 8 both.1)

refusal_at_lem : (p : Pool) (k : Client) (x : Call) → After8 (refusal_at p k x)
refusal_at_lem p k (Begin c g) = at_begin After8 p k c g (after_8 0 tt) (after_8 10 tt) (after_8 12 tt) (after_8 18 tt)
refusal_at_lem p k (Step c) = at_step After8 p k c (after_8 0 tt) (after_8 11 tt)
refusal_at_lem p k (Release c g) = at_release After8 p k c g (after_8 0 tt) (after_8 10 tt) (after_8 13 tt)

pub turned_by_lem : (p : Pool) (x : Call) → After8 (turned_by p x)
turned_by_lem p x = by_turn After8 p x (after_8 9 tt) (refusal_at_lem p _ x)

pub refusal_not_15 : (p : Pool) (x : Call) → refusal p x ≢ 15
refusal_not_15 p x = by_check (λ n. n ≢ 15) p x (differ 8 15 tt) (turned_by_lem p x).0

pub record Allowed (p : Pool) (x : Call) : Type 0 where
  pub ok : valid p ≡ true
  pub here : caller x < number_of_clients p
  pub may : refusal_at p (client p (caller x)) x ≡ 0

pub allowed : (p : Pool) (x : Call) → refusal p x ≡ 0 → Allowed p x
unfolding refusal
allowed p x =
    by_test (λ n. n ≡ 0 → Allowed p x)
    (λ v. by_test (λ n. n ≡ 0 → Allowed p x) (λ h m. record { ok = v; here = ltb-true _ _ h; may = m }) (λ _ e. absurd (omega arith)))
    (λ _ e. absurd (omega arith))

module _ (p : Pool) (k : Client) (c : ℕ) where
  abbrev MayBegin : ℕ → ℕ → Type 0
  MayBegin g n = n ≡ 0 → (k.stage ≡ 0) × (k.held < max_held) × (grant_of p c g ≡ none)

  pub may_begin : (g : ℕ) → MayBegin g (refusal_at p k (Begin c g))
  unfolding refusal_at
  may_begin g =
      by_test (MayBegin g)
      (λ t. by_test (MayBegin g)
      (λ h. by_test (MayBegin g) (λ u _. (eqb-true _ _ t, ltb-true _ _ h, eqb-true _ _ u)) (λ _ e. absurd (omega arith))) (λ _ e. absurd (omega arith)))
      (λ _ e. absurd (omega arith))

  pub may_step : refusal_at p k (Step c) ≡ 0 → k.stage ≢ 0
  unfolding refusal_at
  may_step = by_test (λ n. n ≡ 0 → k.stage ≢ 0) (λ _ e. absurd (omega arith)) (λ t _. eqb-false _ _ t)

  pub may_release : (g : ℕ) → refusal_at p k (Release c g) ≡ 0 → (k.stage ≡ 0) × (grant_of p c g ≢ none)
  unfolding refusal_at
  may_release g =
      by_test (λ n. n ≡ 0 → (k.stage ≡ 0) × (grant_of p c g ≢ none))
      (λ t. by_test (λ n. n ≡ 0 → (k.stage ≡ 0) × (grant_of p c g ≢ none)) (λ _ e. absurd (omega arith)) (λ h _. (eqb-true _ _ t, eqb-false _ _ h)))
      (λ _ e. absurd (omega arith))

-- of a working client it is a step
pub only_step : (p : Pool) (x : Call) → Allowed p x → (client p (caller x)).stage ≢ 0 → x ≡ Step (caller x)
unfolding caller
only_step p (Begin c g) a z = absurd (z (may_begin p (client p c) c g a.may).0)
only_step p (Step c) a z = refl
only_step p (Release c g) a z = absurd (z (may_release p (client p c) c g a.may).0)
