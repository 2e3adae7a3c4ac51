-- How rows are laid over numbers one by one. Assumes nothing.
use Rattle.std.proofs.Common.{◌≡◌, ℕ, zero, suc, ◌+◌, ◌*◌, ◌<◌, ◌≤◌, List, [], ◌∷◌, ◌++◌, length, get_or, set, take, take_all, drop, refl, ◌∙◌, arith, add-one}
use Rattle.pool.specs.Holdings.{row}
use Rattle.pool.specs.declared.Row.{Row}
use Rattle.laws.specs.Laid.{laid, laid_next}
use Rattle.listing.specs.Listed.{row_numbers, numbers_long, twice}

numbers_page : (rows : List Row) (i : ℕ) → get_or (row_numbers rows) (2 * i) 0 ≡ (row rows i).page
unfolding row_numbers
numbers_page [] i = refl
numbers_page (r ∷ rest) zero = refl
numbers_page (r ∷ rest) (suc i) = rw (twice i) (numbers_page rest i)

numbers_times : (rows : List Row) (i : ℕ) → get_or (row_numbers rows) (suc (2 * i)) 0 ≡ (row rows i).times
unfolding row_numbers
numbers_times [] i = refl
numbers_times (r ∷ rest) zero = refl
numbers_times (r ∷ rest) (suc i) = rw (twice i) (numbers_times rest i)

-- the first i rows are laid over the lent numbers
module _ (rows : List Row) (lent : List ℕ) (i : ℕ) {numbers : List ℕ} (so_far : numbers ≡ laid (row_numbers rows) (2 * i) lent) where
  pub one_more : {a b : ℕ} → a ≡ 2 * i → b ≡ 2 * i + 1 → i < length rows → b < length lent
      → set (set numbers a (row rows i).page) b (row rows i).times ≡ laid (row_numbers rows) (2 * (i + 1)) lent
  one_more {a} {b} first second inside room =
      let long = numbers_long rows in
      let next : 2 * (i + 1) ≡ b + 1 = omega arith in
      let page : get_or (row_numbers rows) a 0 ≡ (row rows i).page = rw first (numbers_page rows i) in
      let times : get_or (row_numbers rows) b 0 ≡ (row rows i).times = rw (second, add-one (2 * i)) (numbers_times rows i) in
      let one : set numbers a (row rows i).page ≡ laid (row_numbers rows) b lent =
      rw (so_far, ← page, ← first, second, ← first) (laid_next 0 (row_numbers rows) a lent (omega arith) (omega arith)) in
      rw (one, next, ← times) (laid_next 0 (row_numbers rows) b lent (omega arith) room)

  pub whole : i ≤ length rows → length rows ≤ i → numbers ≡ row_numbers rows ++ drop (2 * length rows) lent
  whole inside past =
      let all : i ≡ length rows = omega arith in
      let cut : take (2 * length rows) (row_numbers rows) ≡ row_numbers rows = take_all (2 * length rows) (row_numbers rows) (omega (arith, numbers_long rows)) in
      so_far ∙ rw (all, cut) refl
