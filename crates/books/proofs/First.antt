-- The definitions' search, by `scan`, is the library's `position`. Assumes nothing.
use Rattle.std.proofs.Common.{◌≡◌, ◌∙◌, sym, ap, refl, ℕ, ◌<◌, ◌≤◌, ◌+◌, ◌*◌, Bool, true, false, not, ◌&&◌, List, length, get_or, Some, None, unwrap_or, cond, arith, nat_lt, nat_eq, take, drop, length-drop}
use Rattle.std.specs.List.{position, position_or_len, zip}
use Rattle.std.proofs.lemmas.List.Sums.{fails_before_first, passes_at_first}
use borrow.Author.Tests.{ltb-true, ltb-false}
use Rattle.std.proofs.lemmas.List.{get_or-take, get_or-drop, length-take-le}
use Rattle.std.proofs.lemmas.Slice.Zip.{get_or-zip, length-zip}
use Rattle.pool.specs.Choose.{choose, both, scan}
use Rattle.pool.specs.State.{none, within, of_client}
use Rattle.laws.specs.Elements.{element, grant_element}
use Rattle.books.specs.Lists.{maps_in, entry_in, unused_in, grant_in}
use Rattle.laws.specs.Loops.{found_at, comes, ends}

module _ {X : Type 0} (test : ℕ → Bool) (p : X → Bool) (xs : List X) (d : X) (m : ℕ) (e : (i : ℕ) → i < length xs → test i ≡ p (get_or xs i d)) where
  by_test : (b : Bool) → nat_lt (position_or_len p xs) (length xs) ≡ b →
      scan test (λ i. i) m 0 (length xs) ≡ unwrap_or (cond b (Some (position_or_len p xs)) None) m
  by_test true t =
      let k = position_or_len p xs in
      let h : k < length xs = omega (arith, ltb-true k (length xs) t) in
      found_at test m (length xs) k h (λ j b. let lt : j < length xs = omega arith in e j lt ∙ fails_before_first p xs j d b) (e k h ∙ passes_at_first p xs d h)
  by_test false t =
      let k = position_or_len p xs in
      let h : length xs ≤ k = omega (arith, ltb-false k (length xs) t) in
      sym (ends (comes test (λ i. i) m (length xs) (length xs) (omega arith) (λ j b. let lt : j < k = omega arith in e j b ∙ fails_before_first p xs j d lt)) (omega arith))

  pub scan_is_first : scan test (λ i. i) m 0 (length xs) ≡ unwrap_or (position p xs) m
  scan_is_first = by_test (nat_lt (position_or_len p xs) (length xs)) refl

-- `both` is `&&`
both_is : (a b : Bool) → both a b ≡ a && b
unfolding both choose
both_is true b = refl
both_is false b = refl

pub scan_of_take : (p : ℕ → Bool) (l : List ℕ) (n d m : ℕ) → n ≤ length l → scan (λ i. p (within l n d i)) (λ i. i) m 0 n ≡ unwrap_or (position p (take n l)) m
scan_of_take p l n d m h =
    let long = length-take-le n l h in
    let at : (i : ℕ) → i < length (take n l) → p (within l n d i) ≡ p (get_or (take n l) i 0) =
    λ i b. let lt : i < n = omega (arith, long) in ap p (element l n d i lt ∙ sym (get_or-take n l i 0 lt)) in
    ap (λ k. scan (λ i. p (within l n d i)) (λ i. i) m 0 k) (sym long) ∙ scan_is_first (λ i. p (within l n d i)) p (take n l) 0 m at

pub unused_is : (frames : List ℕ) (n : ℕ) → n ≤ length frames → unused_in frames n ≡ unwrap_or (position (λ f. nat_eq f none) (take n frames)) none
unfolding unused_in
unused_is frames n h = scan_of_take (λ f. nat_eq f none) frames n none none h

-- both of two lists, side by side
pub entry_is : (pages frames : List ℕ) (n g : ℕ) → n ≤ length pages → n ≤ length frames →
    entry_in pages frames n g ≡ unwrap_or (position (λ (e : ℕ × ℕ). nat_eq e.0 g && not (nat_eq e.1 none)) (zip (take n pages) (take n frames))) none
unfolding entry_in maps_in both choose
entry_is pages frames n g h k =
    let ps = take n pages in
    let fs = take n frames in
    let p : ℕ × ℕ → Bool = λ e. nat_eq e.0 g && not (nat_eq e.1 none) in
    let long : length (zip ps fs) ≡ n = omega (arith, length-zip ps fs, length-take-le n pages h, length-take-le n frames k) in
    let at : (i : ℕ) → i < length (zip ps fs) → maps_in pages frames n g i ≡ p (get_or (zip ps fs) i (0, 0)) =
    λ i b.
    let lt : i < n = omega (arith, long) in
    let lp : i < length ps = omega (arith, length-take-le n pages h) in
    let lf : i < length fs = omega (arith, length-take-le n frames k) in
    ap (λ a. both (nat_eq a g) (not (nat_eq (within frames n none i) none))) (element pages n 0 i lt ∙ sym (get_or-take n pages i 0 lt))
    ∙ ap (λ c. both (nat_eq (get_or ps i 0) g) (not (nat_eq c none))) (element frames n none i lt ∙ sym (get_or-take n frames i 0 lt))
    ∙ both_is (nat_eq (get_or ps i 0) g) (not (nat_eq (get_or fs i 0) none)) ∙ ap p (sym (get_or-zip ps fs i (0, 0) lp lf)) in
    ap (λ m. scan (maps_in pages frames n g) (λ i. i) none 0 m) (sym long) ∙ scan_is_first (maps_in pages frames n g) p (zip ps fs) (0, 0) none at

-- of client c's part of the list of all grants
pub grant_is : (pages : List ℕ) (c n g : ℕ) → 8 * c + n ≤ length pages →
    grant_in pages c n g ≡ unwrap_or (position (λ x. nat_eq x g) (take n (drop (8 * c) pages))) none
unfolding grant_in
grant_is pages c n g h =
    let part = drop (8 * c) pages in
    let long : length (take n part) ≡ n = length-take-le n part (omega (arith, length-drop (8 * c) pages)) in
    ap (λ k. scan (λ i. nat_eq (of_client pages c n 0 i) g) (λ i. i) none 0 k) (sym long)
    ∙ scan_is_first (λ i. nat_eq (of_client pages c n 0 i) g) (λ x. nat_eq x g) (take n part) 0 none
    (λ i b.
    let lt : i < n = omega (arith, long) in
    ap (λ x. nat_eq x g) (grant_element pages c n 0 i lt ∙ sym (get_or-take n part i 0 lt ∙ get_or-drop (8 * c) pages i 0)))
