-- Holdings in place: SPECIFICATION 14.6. The caller lends a list of numbers, two for each row. What the call answers and leaves there, on any memory
-- at all; and that on a valid pool it is what holdings leaves on a list of rows. Assumes nothing.
use Rattle.std.specs.Prelude.{◌≡◌, refl, Bool, true, false, List, [], ◌∷◌, ◌++◌, ℕ, zero, suc, ◌*◌, ◌<◌, ◌≤◌, eqb, ltb, leb, length, drop}
use Rattle.std.proofs.Common.{sym, ap, ◌∙◌, arith, le-leb, le-ltb}
use Rattle.std.proofs.Math.Decide.{dec_lt}
use Rattle.std.proofs.Math.Seq.{drop-nil}
use Rattle.std.proofs.lemmas.Bool.{lt-leb}
use Rattle.pool.specs.Limits.{max_clients, max_held}
use Rattle.pool.specs.Choose.{choose}
use Rattle.pool.specs.State.{number_of_clients, client}
use Rattle.pool.specs.Valid.{valid}
use Rattle.pool.specs.Holdings.{rows_of, holdings_refusal, listed, holdings_of}
use Rattle.pool.specs.declared.Answer.{Answer}
use Rattle.pool.specs.declared.Answer.TheVariants.{Done, Refused}
use Rattle.pool.specs.declared.Pool.{Pool}
use Rattle.pool.specs.declared.Row.{Row}
use Rattle.laws.specs.Scans.{both_yes}
use Rattle.ranges.specs.Ranges.{ranged}
use Rattle.in_place.specs.Held.{holder_fits}

-- ---- the call

-- SPECIFICATION 14.6: rows as numbers, the page and the times of each
unfoldable pub row_numbers : List Row → List ℕ
row_numbers [] = []
row_numbers (r ∷ rest) = r.page ∷ r.times ∷ row_numbers rest

-- SPECIFICATION 14.6: an answer, and the lent numbers as they are left
pub record HeldRows : Type 0 where
  pub answer : Answer
  pub numbers : List ℕ

-- SPECIFICATION 14.4, 14.6: by which number the call is turned down where so many numbers are lent; 0 for none
unfoldable pub listing_refusal : Pool → ℕ → ℕ → ℕ
listing_refusal p c lent =
    choose (holder_fits p c) (choose (ltb c (number_of_clients p)) (choose (leb (2 * length (rows_of p c)) lent) 0 14) 9) 8

abbrev pub rows_over : List Row → List ℕ → HeldRows
rows_over rows lent = record { answer = Done (length rows); numbers = row_numbers rows ++ drop (2 * length rows) lent }

abbrev pub refused_over : ℕ → List ℕ → HeldRows
refused_over n lent = record { answer = Refused n; numbers = lent }

-- SPECIFICATION 14.6, 14.10: holdings of client c, on these numbers
unfoldable pub held_listing : Pool → ℕ → List ℕ → HeldRows
held_listing p c lent =
    let n = listing_refusal p c (length lent) in
    choose (eqb n 0) (rows_over (rows_of p c) lent) (refused_over n lent)

-- ---- the test of the client

module _ (p : Pool) (c : ℕ) where
  pub may_list : number_of_clients p ≤ max_clients → (client p c).held ≤ max_held → holder_fits p c ≡ true
  unfolding holder_fits
  may_list few less = both_yes _ _ (le-leb _ _ few) (le-leb _ _ less)

  -- one that the pool does not have holds nothing
  pub nobody_held : number_of_clients p ≤ c → (client p c).held ≤ max_held
  unfolding client choose
  nobody_held h = rw (le-ltb c (number_of_clients p) h) (omega arith)

-- ---- laws of rows as numbers

pub numbers_long : (rows : List Row) → length (row_numbers rows) ≡ 2 * length rows
unfolding row_numbers
numbers_long [] = refl
numbers_long (r ∷ rest) = omega (arith, numbers_long rest)

pub numbers_append : (a b : List Row) → row_numbers (a ++ b) ≡ row_numbers a ++ row_numbers b
unfolding row_numbers
numbers_append [] b = refl
numbers_append (r ∷ rest) b = ap (λ (l : List ℕ). r.page ∷ r.times ∷ l) (numbers_append rest b)

pub twice : (n : ℕ) → 2 * suc n ≡ suc (suc (2 * n))
twice n = omega arith

numbers_drop : (n : ℕ) (rows : List Row) → drop (2 * n) (row_numbers rows) ≡ row_numbers (drop n rows)
unfolding row_numbers
numbers_drop zero rows = refl
numbers_drop (suc n) [] = drop-nil (2 * suc n)
numbers_drop (suc n) (r ∷ rest) = rw (twice n) (numbers_drop n rest)

-- ---- on a valid pool it is holdings of a list of rows

twice_leb : (a b : ℕ) → leb (2 * a) (2 * b) ≡ leb a b
twice_leb a b = by_size (dec_lt b a)
  where
    by_size : Dec (b < a) → leb (2 * a) (2 * b) ≡ leb a b
    by_size (yes h) = lt-leb (2 * a) (2 * b) (omega arith) ∙ sym (lt-leb a b h)
    by_size (no d) = le-leb (2 * a) (2 * b) (omega arith) ∙ sym (le-leb a b (omega arith))

-- by the same number n, or by none where t
as_rows : (rows lent : List Row) (n : ℕ) (t : Bool) →
    let h = choose t (rows_over rows (row_numbers lent)) (refused_over n (row_numbers lent)) in
    let l = choose t (listed (Done (length rows)) (rows ++ drop (length rows) lent)) (listed (Refused n) lent) in
    (h.answer ≡ l.answer) × (h.numbers ≡ row_numbers l.rows)
unfolding choose
as_rows rows lent n true =
    (refl, ap (λ (l : List ℕ). row_numbers rows ++ l) (numbers_drop (length rows) lent) ∙ sym (numbers_append rows (drop (length rows) lent)))
as_rows rows lent n false = (refl, refl)

module _ (p : Pool) (v : valid p ≡ true) (c : ℕ) where
  its_held : Dec (c < number_of_clients p) → (client p c).held ≤ max_held
  its_held (yes h) = ((ranged p v).client c h).counts.held
  its_held (no d) = nobody_held p c (omega arith)

  same_refusal : (rows : List Row) → listing_refusal p c (length (row_numbers rows)) ≡ holdings_refusal p c (length rows)
  unfolding listing_refusal holdings_refusal choose
  same_refusal rows =
      let fits = may_list p c (ranged p v).numbers.clients (its_held (dec_lt c (number_of_clients p))) in
      rw (fits, v, numbers_long rows, twice_leb (length (rows_of p c)) (length rows))

-- THE LAW
pub listing_as : (p : Pool) → valid p ≡ true → (c : ℕ) (rows : List Row) →
    ((held_listing p c (row_numbers rows)).answer ≡ (holdings_of p c rows).answer)
    × ((held_listing p c (row_numbers rows)).numbers ≡ row_numbers (holdings_of p c rows).rows)
unfolding held_listing holdings_of
listing_as p v c rows = let n = holdings_refusal p c (length rows) in rw (same_refusal p v c rows) (as_rows (rows_of p c) rows n (eqb n 0))
