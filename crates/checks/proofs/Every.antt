-- The definitions' `every` over the first numbers of a list, or of two side by side, is the library's `list_all`, and so what a `fold` with `&&` comes
-- to. Assumes nothing.
use Rattle.std.proofs.Common.{◌≡◌, ◌∙◌, sym, ap, refl, ℕ, suc, ◌+◌, ◌*◌, ◌<◌, ◌≤◌, Bool, true, false, not, ◌&&◌, List, [], ◌∷◌, length, get_or, take, drop, arith, length-drop}
use Rattle.std.specs.List.{fold, list_all, zip, range_with_len}
use Rattle.std.proofs.lemmas.List.{get_or-take, get_or-drop, length-take-le}
use Rattle.std.proofs.lemmas.List.Folds.{fold_stays}
use Rattle.std.proofs.lemmas.List.FromFn.{length-range_with_len, get_or-range_with_len}
use Rattle.std.proofs.lemmas.Slice.Zip.{get_or-zip, length-zip}
use Rattle.pool.specs.Choose.{choose, scan, every}
use Rattle.pool.specs.State.{within, of_client}
use Rattle.laws.specs.Elements.{element, grant_element}

module _ {X : Type 0} (q : X → Bool) where
  from_test : (t : Bool) (xs : List X) → fold (λ ok x. ok && q x) t xs ≡ t && list_all q xs
  from_test true [] = refl
  from_test true (x ∷ xs) = from_test (q x) xs
  from_test false xs = fold_stays (λ ok x. ok && q x) false (λ x. refl) xs

  pub fold_all : (xs : List X) → fold (λ ok x. ok && q x) true xs ≡ list_all q xs
  fold_all xs = from_test true xs

  step : (t : Bool) (rest : Bool) → choose (not t) false rest ≡ t && rest
  unfolding choose
  step true rest = refl
  step false rest = refl

  module _ (test : ℕ → Bool) where
    -- from place i on
    from_place : (xs : List X) (d : X) (i : ℕ) → ((j : ℕ) → j < length xs → test (i + j) ≡ q (get_or xs j d)) →
        scan (λ k. not (test k)) (λ _. false) true i (length xs) ≡ list_all q xs
    unfolding scan
    from_place [] d i e = refl
    from_place (x ∷ xs) d i e =
        let here : test i ≡ q x = ap test (omega arith) ∙ e 0 (omega arith) in
        let rest = from_place xs d (i + 1) (λ j b. ap test (omega arith) ∙ e (suc j) (omega arith)) in
        step (test i) (scan (λ k. not (test k)) (λ _. false) true (i + 1) (length xs)) ∙ ap (λ r. test i && r) rest ∙ ap (λ t. t && list_all q xs) here

    pub every_is : (xs : List X) (d : X) (n : ℕ) → length xs ≡ n → ((j : ℕ) → j < n → test j ≡ q (get_or xs j d)) → every test n ≡ list_all q xs
    every_is xs d n long e =
        ap (λ k. every test k) (sym long) ∙ from_place xs d 0 (λ j b. let h : j < n = omega (arith, long) in ap test (omega arith) ∙ e j h)

pub every_range : (q : ℕ → Bool) (n : ℕ) → every q n ≡ list_all q (range_with_len 0 n)
every_range q n =
    every_is q q (range_with_len 0 n) 0 n (length-range_with_len 0 n)
    (λ j b. let at : j ≡ get_or (range_with_len 0 n) j 0 = omega (arith, get_or-range_with_len 0 n j 0 b) in ap q at)

pub every_of : (q : ℕ → Bool) (l : List ℕ) (n d : ℕ) → n ≤ length l → every (λ i. q (within l n d i)) n ≡ list_all q (take n l)
every_of q l n d h =
    every_is q (λ i. q (within l n d i)) (take n l) 0 n (length-take-le n l h) (λ j b. ap q (element l n d j b ∙ sym (get_or-take n l j 0 b)))

module _ (l m : List ℕ) (n : ℕ) (h : n ≤ length l) (k : n ≤ length m) where
  pub every_pair : (test : ℕ → Bool) (q : ℕ → ℕ → Bool) → ((j : ℕ) → j < n → test j ≡ q (get_or l j 0) (get_or m j 0)) →
      every test n ≡ list_all (λ (x : ℕ × ℕ). q x.0 x.1) (zip (take n l) (take n m))
  every_pair test q e =
      let ls = take n l in
      let ms = take n m in
      let long : length (zip ls ms) ≡ n = omega (arith, length-zip ls ms, length-take-le n l h, length-take-le n m k) in
      every_is (λ x. q x.0 x.1) test (zip ls ms) (0, 0) n long
      (λ j b.
      let lp : j < length ls = omega (arith, length-take-le n l h) in
      let lm : j < length ms = omega (arith, length-take-le n m k) in
      e j b ∙ ap (λ x. q x (get_or m j 0)) (sym (get_or-take n l j 0 b)) ∙ ap (q (get_or ls j 0)) (sym (get_or-take n m j 0 b))
      ∙ ap (λ (x : ℕ × ℕ). q x.0 x.1) (sym (get_or-zip ls ms j (0, 0) lp lm)))

-- of client c's part of the list of all grants
pub every_grant : (q : ℕ → Bool) (l : List ℕ) (c n d : ℕ) → 8 * c + n ≤ length l → every (λ i. q (of_client l c n d i)) n ≡ list_all q (take n (drop (8 * c) l))
every_grant q l c n d h =
    let part = drop (8 * c) l in
    every_is q (λ i. q (of_client l c n d i)) (take n part) 0 n (length-take-le n part (omega (arith, length-drop (8 * c) l)))
    (λ j b. ap q (grant_element l c n d j b ∙ sym (get_or-take n part j 0 b ∙ get_or-drop (8 * c) l j 0)))
