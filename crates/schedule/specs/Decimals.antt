-- Laws of the decimal digits: a number below 10 is one digit, and a greater one is the digits of a tenth of it and its last digit. That needs
-- that the digits do not depend on the fuel, once there is enough of it. From there: how many digits there are at most; and that they are the library's,
-- of a number of 64 bits. Assumes nothing.
use Rattle.std.specs.Prelude.{◌≡◌, refl, true, false, Bool, [], ◌∷◌, ◌++◌, ◌⊎◌, ℕ, zero, suc, ◌+◌, ◌/◌, ◌%◌, ◌^◌, ◌≤◌, ◌<◌, ltb, length}
use Rattle.std.specs.Fmt as Std
use Rattle.std.proofs.Common.{sym, ◌∙◌, inl, inr, ⊎_elim, mod-eq_of_lt, pow-suc, arith, ltb-true, ltb-false, lt-ltb, le-ltb, length-append}
use Rattle.std.proofs.Math.Nat.{div-div-eq-div-mul}
use Rattle.std.proofs.lemmas.Fmt.{AppendsLastDigit, decimal_from_appends, decimal_by_steps, decimal_digit}
use Rattle.pool.specs.Choose.{choose}
use Rattle.pool.specs.Schedule.{digits, decimal}

-- ---- one digit, or more

one_or_more : (n : ℕ) → (n < 10) ⊎ (10 ≤ n)
one_or_more n = told (ltb n 10) refl
  where
    told : (t : Bool) → ltb n 10 ≡ t → (n < 10) ⊎ (10 ≤ n)
    told true e = inl (ltb-true n 10 e)
    told false e = inr (ltb-false n 10 e)

digits_one : (fuel n : ℕ) → n < 10 → digits fuel n ≡ (48 + n) ∷ []
unfolding digits choose
digits_one zero n h = rw (mod-eq_of_lt h)
digits_one (suc fuel) n h = rw (lt-ltb n 10 h)

digits_more : (fuel n : ℕ) → 10 ≤ n → digits (suc fuel) n ≡ digits fuel (n / 10) ++ (48 + n % 10) ∷ []
unfolding digits choose
digits_more fuel n h = rw (le-ltb n 10 h)

-- Above the number of digits, the fuel makes no difference.
digits_fuel : (f g n : ℕ) → n ≤ f → n ≤ g → digits f n ≡ digits g n
digits_fuel zero g n a b = digits_one zero n (omega arith) ∙ sym (digits_one g n (omega arith))
digits_fuel (suc f) zero n a b = digits_one (suc f) n (omega arith) ∙ sym (digits_one zero n (omega arith))
digits_fuel (suc f) (suc g) n a b =
    ⊎_elim
    (λ small. digits_one (suc f) n small ∙ sym (digits_one (suc g) n small))
    (λ large. digits_more f n large ∙ rw (digits_fuel f g (n / 10) (omega arith) (omega arith)) (sym (digits_more g n large)))
    (one_or_more n)

pub decimal_one : (n : ℕ) → n < 10 → decimal n ≡ (48 + n) ∷ []
decimal_one n h = digits_one n n h

pub decimal_more : (n : ℕ) → 10 ≤ n → decimal n ≡ decimal (n / 10) ++ (48 + n % 10) ∷ []
decimal_more zero h = absurd (omega arith)
decimal_more (suc m) h = digits_more m (suc m) h ∙ rw (digits_fuel m (suc m / 10) (suc m / 10) (omega arith) (omega arith))

-- ---- two, three and four digits

pub decimal_two : (n : ℕ) → 10 ≤ n → n < 100 → decimal n ≡ (48 + n / 10) ∷ (48 + n % 10) ∷ []
decimal_two n low high = decimal_more n low ∙ rw (decimal_one (n / 10) (omega arith))

pub decimal_three : (n : ℕ) → 100 ≤ n → n < 1000 → decimal n ≡ (48 + n / 100) ∷ (48 + n / 10 % 10) ∷ (48 + n % 10) ∷ []
decimal_three n low high = decimal_more n (omega arith) ∙ rw (decimal_two (n / 10) (omega arith) (omega arith), div-div-eq-div-mul n 10 10)

pub decimal_four : (n : ℕ) → 1000 ≤ n → n < 10000 → decimal n ≡ (48 + n / 1000) ∷ (48 + n / 100 % 10) ∷ (48 + n / 10 % 10) ∷ (48 + n % 10) ∷ []
decimal_four n low high =
    decimal_more n (omega arith)
    ∙ rw (decimal_three (n / 10) (omega arith) (omega arith), div-div-eq-div-mul n 10 100, div-div-eq-div-mul n 10 10)

-- ---- how many digits

decimal_longer : (n : ℕ) → 10 ≤ n → length (decimal n) ≡ length (decimal (n / 10)) + 1
decimal_longer n h = rw (decimal_more n h, length-append)

-- a number below 10 to the power k has at most k digits, if k is 1 or more
pub decimal_fits : (k n : ℕ) → n < 10 ^ suc k → length (decimal n) ≤ suc k
decimal_fits zero n h = rw (decimal_one n h) (omega arith)
decimal_fits (suc k) n h =
    ⊎_elim
    (λ small. rw (decimal_one n small) (omega arith))
    (λ large. omega (arith, decimal_longer n large, decimal_fits k (n / 10) (omega (arith, pow-suc 10 (suc k)))))
    (one_or_more n)

-- ---- the library's

appends : AppendsLastDigit digits
unfolding digits choose
appends = record { one = λ k n h. rw (lt-ltb n 10 h); more = λ k n h. rw (le-ltb n 10 h) }

-- there is fuel enough
few : (n : ℕ) → n < 2 ^ 64 → 0 < n → length (Std.decimal n) ≤ n
few = decimal_by_steps (λ n ds. 0 < n → length ds ≤ n) (λ n h some. some) (λ n ds h short some. rw length-append (omega (arith, short)))

pub as_std : (n : ℕ) → n < 2 ^ 64 → decimal n ≡ Std.decimal n
unfolding digits
as_std zero h = sym (decimal_digit 0 (omega arith))
as_std (suc m) h = decimal_from_appends digits appends (suc m) (suc m) h (few (suc m) h (omega arith))
