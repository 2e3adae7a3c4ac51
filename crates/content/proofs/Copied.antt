-- Bytes laid over others, byte by byte, are a part of one list in the other; and a copy by way of a page of its own. Assumes nothing.
use Rattle.std.proofs.Common.{◌≡◌, ◌∙◌, sym, ap, ℕ, zero, suc, ◌+◌, ◌≤◌, ◌<◌, List, ◌++◌, length, get_or, set, replicate, take, drop, arith, length-drop, refl}
use Rattle.std.proofs.Math.Seq.{paste, paste-zero, paste-suc}
use Rattle.std.proofs.lemmas.List.{get_or-drop, length-replicate, length-take-le, take-take}
use Rattle.std.proofs.lemmas.Slice.{put_mid-paste}
use borrow.Rule.Slice.PartMut.{put_mid}
use Rattle.memory.specs.Memory.{page_bytes, copied}
use Rattle.memory.specs.Copying.{copied_in}

copied_is : (n : ℕ) (to : List ℕ) (i : ℕ) (from : List ℕ) (j : ℕ) → i + n ≤ length to → j + n ≤ length from → copied n to i from j ≡ paste to i (drop j from) n
unfolding copied
copied_is zero to i from j h k = paste-zero to i (drop j from)
copied_is (suc n) to i from j h k =
    let part = drop j from in
    let long : n < length part = omega (arith, length-drop j from) in
    ap (λ l. set l (i + n) (get_or from (j + n) 0)) (copied_is n to i from j (omega arith) (omega arith))
    ∙ ap (λ b. set (paste to i part n) (i + n) b) (sym (get_or-drop j from n 0))
    ∙ paste-suc to i part n 0 (omega arith) long

module _ (to : List ℕ) (i : ℕ) (from : List ℕ) (j : ℕ) (room : i + page_bytes ≤ length to) (whole : j + page_bytes ≤ length from) where
  -- as `paste` has it
  pub within_is : (n : ℕ) → n ≡ page_bytes → paste to i (drop j from) n ≡ copied page_bytes to i from j
  within_is n e = rw e (sym (copied_is page_bytes to i from j room whole))

  -- as a part of a list is left by `copy_from_slice`
  pub part_is : {n m : ℕ} {part : List ℕ} → part ≡ take m (drop j from) → m ≡ page_bytes → n ≡ page_bytes → put_mid i n to part ≡ copied page_bytes to i from j
  part_is g f e =
      let page = take page_bytes (drop j from) in
      let long : page_bytes ≡ length page = sym (length-take-le page_bytes (drop j from) (omega (arith, length-drop j from))) in
      rw (g, f, e)
      (put_mid-paste i page_bytes to page page page_bytes refl refl long
      ∙ ap (λ l. take i to ++ l ++ drop (i + page_bytes) to) (take-take page_bytes page_bytes (drop j from) (omega arith))
      ∙ within_is page_bytes refl)

-- ---- by way of a page

-- a page of bytes from place j on, by themselves
abbrev pub page_from : List ℕ → ℕ → List ℕ
page_from from j = copied page_bytes (replicate page_bytes 0) 0 from j

blank_long : length (replicate {A = ℕ} page_bytes 0) ≡ page_bytes
blank_long = length-replicate {A = ℕ} page_bytes 0

by_way : (n : ℕ) → n ≤ page_bytes → (to : List ℕ) (i : ℕ) (from : List ℕ) (j : ℕ) → copied n to i (page_from from j) 0 ≡ copied n to i from j
unfolding copied
by_way zero h to i from j = refl
by_way (suc n) h to i from j =
    ap (λ (x : List ℕ). set x (i + n) (get_or (page_from from j) (0 + n) 0)) (by_way n (omega arith) to i from j)
    ∙ ap (λ (v : ℕ). set (copied n to i from j) (i + n) v)
    (copied_in (replicate page_bytes 0) 0 from j page_bytes n (omega (arith, blank_long)) (omega arith))

pub by_page : (to : List ℕ) (i : ℕ) (page from : List ℕ) (j : ℕ) {r : List ℕ} → r ≡ copied page_bytes to i page 0 → page ≡ page_from from j
    → r ≡ copied page_bytes to i from j
by_page to i page from j e f = e ∙ ap (λ (x : List ℕ). copied page_bytes to i x 0) f ∙ by_way page_bytes (omega arith) to i from j
