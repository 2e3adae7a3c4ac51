-- The arithmetic of claim 24: what the rank of a pool comes to at the most is one less than `step_bound`; this is no larger than `plain_bound`, and that no
-- larger than 4 C (S + T)^3, each product multiplied out with S = a + 1, T = b + 1 and C = e + 1. Assumes nothing.
use mathlib.Core.Path.{◌≡◌}
use Prim.Native.Nat.{ℕ, zero, suc, ◌+◌, ◌-◌, ◌*◌, ◌≤◌}
use native.Mathlib.Omega.{arith}
use native.Mathlib.Nat.{mul-le-mul_right}
use Rattle.progress.proofs.Rank.{lap, detour, toll}
use Rattle.guarantee.specs.Progress.{step_bound, ClaimBounds}

-- frames and free slots, and clients
pub rank_bound : (s t c : ℕ) → (lap s * (c - 1) + toll s t) * s + (3 * toll s t + 6 * s + 24) * t + 1 ≡ step_bound s t c
unfolding lap detour toll
rank_bound s t c = omega arith

square : (b : ℕ) → b ≤ b * b
square zero = omega arith
square (suc b) = omega arith

-- with n for the sum S + T and m for its square
in_cubes : (b e n m : ℕ) → suc e + suc b ≤ suc e * n → 4 * (suc e + suc b) * m ≤ 4 * suc e * (m * n)
in_cubes b e n m l = let h : (suc e + suc b) * m ≤ suc e * n * m = mul-le-mul_right m l in omega arith

pub bounds : ClaimBounds
bounds zero t c h l m = absurd (let z : ⊥ = omega arith in z)
bounds (suc a) zero c h l m = absurd (let z : ⊥ = omega arith in z)
bounds (suc a) (suc b) zero h l m = absurd (let z : ⊥ = omega arith in z)
bounds (suc a) (suc b) (suc e) h l m =
    let x : suc b - 1 ≡ b = omega arith in
    let y : suc e - 1 ≡ e = omega arith in
    (rw (x, y) (omega (arith, square b)), omega (arith, in_cubes b e (suc a + suc b) ((suc a + suc b) * (suc a + suc b)) (omega arith)))
