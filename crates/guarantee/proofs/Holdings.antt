-- Claim 14. The pages of the definition's rows are rising and are those that the client holds, by how `sorted` makes them. So are the pages of any
-- `Listing`, and two such lists are one. In a pool that passes check 8 no page is among a client's grants twice. Assumes nothing.
use mathlib.Core.Path.{◌≡◌, refl, ◌∙◌, sym, ap}
use mathlib.Core.Bool.{true}
use mathlib.Core.List.{List, [], ◌∷◌, map}
use native.Mathlib.Omega.{arith}
use Prim.Native.Nat.{ℕ, zero, suc, ◌≤◌, ◌<◌}
use borrow.Author.Tests.{eq-eqb, eqb-true}
use lib.Dec.{eqb}
use lib.ListN.{length, get_or, length-map, get_or-map}
use lib.Seq.{ext_get_or}
use Rattle.pool.specs.State.{number_of_clients, client, grant_page}
use Rattle.pool.specs.Valid.{valid}
use Rattle.pool.specs.Holdings.{pages_held, times_held, rows_of, no_row, row}
use Rattle.pool.specs.declared.Pool.{Pool}
use Rattle.pool.specs.declared.Row.{Row}
use Rattle.laws.specs.Counting.{counted, one_passes, once}
use Rattle.laws.specs.Rising.{Rising, Has, has_at, place_of, rises, of_places, same_list, sorted_rises, sorted_has, sorted_from, sorted_all}
use Rattle.ranges.specs.Ranges.{ranged}
use Rattle.invariant.proofs.After.{client_here}
use Rattle.guarantee.specs.Claims.{Listing, ClaimHoldings, HeldOnce, ClaimHeldOnce}

abbrev pages : List Row → List ℕ
pages rows = map (λ (r : Row). r.page) rows

page_at : (rows : List Row) (i : ℕ) → get_or (pages rows) i 0 ≡ (row rows i).page
page_at rows i = get_or-map (λ (r : Row). r.page) rows i no_row

module _ (p : Pool) (c : ℕ) where
  abbrev row_of : ℕ → Row
  row_of g = record { page = g; times = 1 }

  long : length (rows_of p c) ≡ length (pages_held p c)
  unfolding rows_of
  long = length-map (pages_held p c) row_of

  row_at : (i : ℕ) → i < length (pages_held p c) → row (rows_of p c) i ≡ row_of (get_or (pages_held p c) i 0)
  unfolding rows_of
  row_at i h = along (pages_held p c) i h
    where
      along : (l : List ℕ) (i : ℕ) → i < length l → row (map row_of l) i ≡ row_of (get_or l i 0)
      along [] i h = let z : ⊥ = omega arith in absurd z
      along (g ∷ l) zero h = refl
      along (g ∷ l) (suc i) h = along l i (omega arith)

  page_of : (i : ℕ) → i < length (pages_held p c) → (row (rows_of p c) i).page ≡ get_or (pages_held p c) i 0
  page_of i h = ap (λ (r : Row). r.page) (row_at i h)

  -- the pages of the rows: they rise, and are those that are held at all
  pages_rise : Rising 0 (pages_held p c)
  unfolding pages_held
  pages_rise = sorted_rises (grant_page p c) (client p c).held

  stands : (g : ℕ) → 0 < times_held p c g → Has (pages_held p c) g
  unfolding pages_held times_held
  stands g h =
      let one = one_passes (λ i. eqb (grant_page p c i) g) (client p c).held h in
      let is : grant_page p c one.0 ≡ g = eqb-true _ _ one.2 in
      rw is at (sorted_has (grant_page p c) (client p c).held one.0 one.1)

  is_held : (g : ℕ) → Has (pages_held p c) g → 0 < times_held p c g
  unfolding pages_held times_held
  is_held g m = let at = sorted_from (grant_page p c) (client p c).held g m in counted _ _ at.0 at.1 (eq-eqb _ _ at.2)

  -- the definition's rows
  listing : Listing p c (rows_of p c)
  listing = record {
    right = λ i h.
        let inside : i < length (pages_held p c) = rw long at h in
        rw (row_at i inside) (refl, is_held _ (has_at 0 (pages_held p c) i inside));
    rising = λ i j less h.
        let inside : j < length (pages_held p c) = rw long at h in
        omega (arith, page_of i (omega arith), page_of j inside, rises 0 pages_rise i j less inside);
    complete = λ g h.
        let at = place_of 0 (stands g h) in
        (at.0, rw long at.1, page_of at.0 at.1 ∙ at.2);
  }

  -- any list of that kind
  module _ (rows : List Row) (l : Listing p c rows) where
    as_long : length (pages rows) ≡ length rows
    as_long = length-map rows (λ (r : Row). r.page)

    is_row : (i : ℕ) → i < length rows → row rows i ≡ row_of (row rows i).page
    is_row i h = ap (λ (t : ℕ). record { page = (row rows i).page; times = t }) (l.right i h).0

    rows_rise : Rising 0 (pages rows)
    rows_rise =
        of_places 0 0 (pages rows) (λ i h. omega arith)
        (λ i j less h. omega (arith, page_at rows i, page_at rows j, l.rising i j less (rw as_long at h)))

    into : (g : ℕ) → Has (pages rows) g → Has (pages_held p c) g
    into g m =
        let at = place_of 0 m in
        let right = l.right at.0 (rw as_long at at.1) in
        stands g (rw (← (page_at rows at.0), at.2) at right.1)

    back : (g : ℕ) → Has (pages_held p c) g → Has (pages rows) g
    back g m =
        let at = l.complete g (is_held g m) in
        rw (page_at rows at.0, at.2) at (has_at 0 (pages rows) at.0 (rw as_long at.1))

    only : rows ≡ rows_of p c
    only =
        let same : pages rows ≡ pages_held p c = same_list rows_rise pages_rise into back in
        ext_get_or no_row rows (rows_of p c) (sym as_long ∙ ap length same ∙ sym long)
        (λ i h. is_row i h ∙ ap row_of (sym (page_at rows i) ∙ ap (λ (x : List ℕ). get_or x i 0) same)
        ∙ sym (row_at i (rw (← same, as_long) h)))

pub holdings : ClaimHoldings
holdings p c rows = (only p c rows, λ e. rw e (listing p c))

-- ---- of a pool that passes check 8

module _ (p : Pool) (c : ℕ) (v : valid p ≡ true) where
  apart : (i j : ℕ) → i < (client p c).held → j < (client p c).held → grant_page p c i ≡ grant_page p c j → i ≡ j
  apart i j a b =
      let here : c < number_of_clients p = client_here p (λ k. i < k.held) c a (λ z. omega arith) in
      ((ranged p v).client c here).single i j a b

  at_most_one : (g : ℕ) → times_held p c g ≤ 1
  unfolding times_held
  at_most_one g = once (λ i. eqb (grant_page p c i) g) (client p c).held (λ i j a b e w. apart i j a b (eqb-true _ _ e ∙ sym (eqb-true _ _ w)))

  one_grant : (g : ℕ) → Has (pages_held p c) g → times_held p c g ≡ 1
  one_grant g m = omega (arith, is_held p c g m, at_most_one g)

  held_once_in : HeldOnce p c (rows_of p c)
  unfolding pages_held
  held_once_in = record {
    times = λ i h.
        let inside : i < length (pages_held p c) = rw (long p c) at h in
        rw (row_at p c i inside) (sym (one_grant _ (has_at 0 (pages_held p c) i inside)));
    as_many = long p c ∙ sorted_all (grant_page p c) (client p c).held apart;
  }

pub held_once : ClaimHeldOnce
held_once p c v = held_once_in p c v
