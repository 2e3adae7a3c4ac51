-- What the rank's weights come to, as equations: all that the proofs use of them. Assumes nothing.
use mathlib.Core.Path.{◌≡◌, refl}
use mathlib.Core.Logic.{◌≢◌}
use mathlib.Core.Bool.{Bool, true, false}
use Prim.Native.Nat.{ℕ, zero, suc, ◌+◌, ◌-◌, ◌*◌, ◌≤◌}
use native.Mathlib.Omega.{arith}
use Rattle.progress.proofs.Rank.{weigh, lap, detour, toll, anew}

pub weigh_at_most : (b : Bool) (n : ℕ) → weigh b n ≤ n
weigh_at_most true n = omega arith
weigh_at_most false n = omega arith

-- one time less
pub lowered : (d n : ℕ) → n ≢ 0 → d * (n - 1) + d ≡ d * n
lowered d zero z = absurd (z refl)
lowered d (suc n) z = let e : suc n - 1 ≡ n = omega arith in rw e (omega arith)

pub lap_is : (s : ℕ) → lap s ≡ 2 * s + 1
unfolding lap
lap_is s = omega arith

pub detour_is : (s : ℕ) → detour s ≡ 2 * s + 3
unfolding detour
detour_is s = omega arith

-- a detour for each client but one
pub toll_is : (s t : ℕ) → 1 ≤ t → detour s * t ≡ toll s t + detour s
unfolding toll
toll_is s t h = omega (arith, lowered (detour s) t (λ e. let z : ⊥ = omega arith in z))

pub anew_is : (s t : ℕ) → anew s t ≡ toll s t + 2 * s + 12
unfolding anew
anew_is s t = omega arith
