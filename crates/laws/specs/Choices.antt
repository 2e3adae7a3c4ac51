-- Laws of `choose`, `both`, `either` and `scan`. Assumes nothing.
use Rattle.std.specs.Prelude.{◌≡◌, refl, Bool, true, false}
use native.Mathlib.Omega.{arith}
use Prim.Native.Nat.{ℕ, zero, suc, ◌+◌, ◌-◌, ◌<◌, ◌≤◌}
use Rattle.std.proofs.Common.{rules, eq-eqb, ne_eqb, le-leb, lt-ltb, le-ltb}
use Rattle.std.proofs.lemmas.Bool.{lt-leb}
use Rattle.pool.specs.Choose.{choose, both, scan}

-- ---- a choice

-- a property of both branches is one of the choice
pub by_test : {A : Type 0} (P : A → Type 0) {t : Bool} {x y : A} → (t ≡ true → P x) → (t ≡ false → P y) → P (choose t x y)
unfolding choose
by_test P {t = true} f g = f refl
by_test P {t = false} f g = g refl

-- the choice, once the test is known
pub chosen : {A : Type 0} (t : Bool) (x y : A) → t ≡ true → choose t x y ≡ x
unfolding choose
chosen t x y e = rw e

pub passed : {A : Type 0} (t : Bool) (x y : A) → t ≡ false → choose t x y ≡ y
unfolding choose
passed t x y e = rw e

-- r, which is a test of two, is the one of two others that come to the same
pub both_are : {r x y x' y' : Bool} → r ≡ both x y → x ≡ x' → y ≡ y' → r ≡ both x' y'
both_are e f g = cc

-- ---- a search

module _ {A : Type 0} (test : ℕ → Bool) (found : ℕ → A) (missing : A) where
  pub scan_hit : (i n : ℕ) → i < n → test i ≡ true → scan test found missing i (n - i) ≡ found i
  unfolding scan choose
  scan_hit i n h e =
      let s : n - i ≡ suc (n - (i + 1)) = omega arith in
      simp (s, e)

  pub scan_miss : (i n : ℕ) → i < n → test i ≡ false → scan test found missing i (n - i) ≡ scan test found missing (i + 1) (n - (i + 1))
  unfolding scan choose
  scan_miss i n h e =
      let s : n - i ≡ suc (n - (i + 1)) = omega arith in
      simp (s, e)

  pub scan_end : (i n : ℕ) → n ≤ i → scan test found missing i (n - i) ≡ missing
  unfolding scan
  scan_end i n h =
      let s : n - i ≡ 0 = omega arith in
      rw s

  pub scan_start : (n : ℕ) → scan test found missing 0 (n - 0) ≡ scan test found missing 0 n
  scan_start n =
      let s : n - 0 ≡ n = omega arith in
      rw s

  -- what holds of `missing` and of `found` at each number of the range that passes the test holds of the result
  pub scan_ind : (P : A → Type 0) → P missing → (i n : ℕ) → ((k : ℕ) → i ≤ k → k < i + n → test k ≡ true → P (found k)) → P (scan test found missing i n)
  unfolding scan
  scan_ind P z i zero s = z
  scan_ind P z i (suc n) s = by_test P (λ e. s i (omega arith) (omega arith) e) (λ _. scan_ind P z (i + 1) n (λ k a b e. s k (omega arith) (omega arith) e))

-- the lemmas by which a return is searched for
pub last_one : (a : ℕ) → a ≤ 1 → a - 1 ≡ 0
last_one a h = omega arith

pub ruleset tests = (rules, eq-eqb, ne_eqb, le-leb, lt-leb, lt-ltb, le-ltb, last_one)
