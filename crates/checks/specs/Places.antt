-- The tests of a place of the table and of a client's grant, over the arrays that are lent; and the same by the numbers that stand there, where
-- the place is in range. Assumes nothing.
use Rattle.std.specs.Prelude.{◌≡◌, refl, Bool, true, List, ℕ, ◌<◌, get_or}
use Rattle.std.proofs.Math.Bool.{false}
use Rattle.std.proofs.Common.{arith}
use Rattle.std.proofs.Math.Dec.{eqb}
use borrow.Author.Tests.{eq-eqb, ne_eqb}
use Rattle.pool.specs.Choose.{choose, both, every}
use Rattle.pool.specs.State.{none, within, of_client, grant_place}
use Rattle.pool.specs.Valid.{entry_ok, grant_ok}
use Rattle.laws.specs.Loops.{found_at}
use Rattle.laws.specs.Elements.{element, grant_element, page_of}
use Rattle.books.specs.Lists.{maps_in, entry_in, grant_in}
use Rattle.checks.specs.Met.{New}

-- ---- a place of the table

module _ (pages frames : List ℕ) (n : ℕ) where
  unfoldable pub entry_ok_in : ℕ → Bool
  entry_ok_in i = entry_ok n i (within frames n none i) (entry_in pages frames n (within pages n 0 i))

  unfoldable pub entries_ok_in : Bool
  entries_ok_in = every entry_ok_in n

abbrev pub page_at : List ℕ → ℕ → ℕ
page_at pages i = get_or pages i 0

module _ (pages frames : List ℕ) (n i : ℕ) (h : i < n) where
  pub entry_at : entry_ok n i (get_or frames i 0) (entry_in pages frames n (page_at pages i)) ≡ entry_ok_in pages frames n i
  unfolding entry_ok_in
  entry_at = rw (element frames n none i h, element pages n 0 i h)

  -- a used place whose page is new is the first that maps it
  pub place_new : New (page_at pages) i → (get_or frames i 0 ≡ none → ⊥) → entry_in pages frames n (page_at pages i) ≡ i
  unfolding maps_in entry_in both choose
  place_new new used = found_at (maps_in pages frames n (page_at pages i)) none n i h earlier here
    where
      earlier : (j : ℕ) → j < i → maps_in pages frames n (page_at pages i) j ≡ false
      earlier j b = rw (element pages n 0 j (omega arith), ne_eqb (page_at pages j) (page_at pages i) (new.apart j b))

      here : maps_in pages frames n (page_at pages i) i ≡ true
      here =
          rw (
            element pages n 0 i h,
            element frames n none i h,
            eq-eqb (page_at pages i) (page_at pages i) refl,
            ne_eqb (get_or frames i 0) none used,
          )

-- ---- a grant of a client

module _ (pages frames : List ℕ) (c held n : ℕ) where
  unfoldable pub grant_ok_in : ℕ → Bool
  grant_ok_in i = grant_ok n i (of_client frames c held none i) (grant_in pages c held (of_client pages c held 0 i))

  unfoldable pub grants_ok_in : Bool
  grants_ok_in = every grant_ok_in held

module _ (pages : List ℕ) (c held i : ℕ) (h : i < held) where
  -- a grant whose page is new is the first of its page
  pub first_new : New (page_of pages c) i → grant_in pages c held (page_of pages c i) ≡ i
  unfolding grant_in
  first_new new =
      found_at (λ j. eqb (of_client pages c held 0 j) (page_of pages c i)) none held i h
      (λ j b. rw (grant_element pages c held 0 j (omega arith)) (ne_eqb _ _ (new.apart j b)))
      (rw (grant_element pages c held 0 i h) (eq-eqb (page_of pages c i) (page_of pages c i) refl))

  -- the test of a grant, by its frame and the first place of its page
  pub grant_at :
      (frames : List ℕ) (n : ℕ) → grant_ok n i (get_or frames (grant_place c i) 0) (grant_in pages c held (page_of pages c i)) ≡ grant_ok_in pages frames c held n i
  unfolding grant_ok_in
  grant_at frames n = rw (grant_element frames c held none i h, grant_element pages c held 0 i h)
