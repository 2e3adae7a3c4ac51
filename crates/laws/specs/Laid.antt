-- A list whose first i places are taken from another: what a loop that copies xs into ys has after i turns. It is `lib.Seq`'s `paste` from
-- place 0 on. Assumes nothing.
use Rattle.std.specs.Prelude.{◌≡◌, ℕ, ◌+◌, ◌<◌, ◌≤◌, List, ◌++◌, length, take, drop, get_or, set}
use Rattle.std.proofs.Common.{zero-add, add-one, arith}
use Rattle.std.proofs.Math.Seq.{paste-suc}
use Rattle.std.proofs.lemmas.List.Edits.{length-paste}

module _ {A : Type 0} where
  abbrev pub laid : List A → ℕ → List A → List A
  laid xs i ys = take i xs ++ drop i ys

  pub length_laid : (xs : List A) (i : ℕ) (ys : List A) → i ≤ length xs → i ≤ length ys → length (laid xs i ys) ≡ length ys
  length_laid xs i ys hx hy = simp zero-add at (length-paste ys 0 xs i (omega arith) hx)

  pub laid_next :
      (d : A) (xs : List A) (i : ℕ) (ys : List A) → i < length xs → i < length ys → set (laid xs i ys) i (get_or xs i d) ≡ laid xs (i + 1) ys
  laid_next d xs i ys hx hy = rw (add-one i) (simp zero-add at (paste-suc ys 0 xs i d (omega arith) hx))
