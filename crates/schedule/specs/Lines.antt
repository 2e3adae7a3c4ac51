-- The fields of a report line, and how many digits there are at most. Assumes nothing.
use Rattle.std.specs.Prelude.{◌≡◌, refl, List, [], ◌∷◌, ◌++◌, ℕ, ◌+◌, ◌^◌, ◌≤◌, ◌<◌, length}
use Rattle.std.proofs.Common.{append_assoc, arith, length-append}
use Rattle.pool.specs.Schedule.{decimal, line}
use Rattle.schedule.specs.Decimals.{decimal_fits}

-- a number, and the byte after it
abbrev pub field : ℕ → ℕ → List ℕ
field v after = decimal v ++ after ∷ []

pub line_fields : (at client code value : ℕ) → line at client code value ≡ ((field at 32 ++ field client 32) ++ field code 32) ++ field value 10
unfolding line
line_fields at client code value = simp append_assoc

-- ---- how many digits a line's numbers have: with a byte after each they fit into 24 bytes

pub at_most_3 : (n : ℕ) → n ≤ 999 → length (decimal n) ≤ 3
at_most_3 n h = decimal_fits 2 n (omega arith)

pub at_most_4 : (n : ℕ) → n ≤ 9999 → length (decimal n) ≤ 4
at_most_4 n h = decimal_fits 3 n (omega arith)

pub at_most_10 : (n : ℕ) → n < 2 ^ 32 → length (decimal n) ≤ 10
at_most_10 n h = decimal_fits 9 n (omega arith)

pub field_length : (v after : ℕ) → length (field v after) ≡ length (decimal v) + 1
field_length v after = rw length-append refl

pub line_length : (at client code value : ℕ) →
    length (line at client code value) ≡ length (field at 32) + length (field client 32) + length (field code 32) + length (field value 10)
unfolding line
line_length at client code value = simp length-append (omega arith)

pub line_fits : (at client code value : ℕ) → at ≤ 9999 → client ≤ 255 → code ≤ 999 → value < 2 ^ 32 → length (line at client code value) ≤ 24
line_fits at client code value a b c d =
    omega (
      arith,
      line_length at client code value,
      field_length at 32,
      field_length client 32,
      field_length code 32,
      field_length value 10,
      at_most_4 at a,
      at_most_3 client (omega arith),
      at_most_3 code c,
      at_most_10 value d,
    )
