-- What a list has at each place after some bytes, or a page of them, were laid over it: laws of `copied`. Assumes nothing.
use Rattle.std.specs.Prelude.{◌≡◌, ◌≢◌, List, length, set}
use Rattle.std.proofs.Math.Path.{refl}
use Rattle.std.proofs.Common.{◌∙◌, get_or-set_same}
use Prim.Native.Nat.{ℕ, zero, suc, ◌+◌, ◌≤◌, ◌<◌}
use native.Mathlib.Omega.{arith}
use Rattle.std.proofs.Math.Decide.{ℕ_discrete}
use Rattle.std.proofs.Math.ListN.{get_or, length-set}
use Rattle.std.proofs.Math.Seq.{get_or-set_other}
use Rattle.memory.specs.Memory.{page_bytes, start, copied, copied_page}

module _ (to : List ℕ) (i : ℕ) (from : List ℕ) (j : ℕ) where
  pub copied_length : (n : ℕ) → length (copied n to i from j) ≡ length to
  unfolding copied
  copied_length zero = refl
  copied_length (suc n) = length-set (copied n to i from j) (i + n) _ ∙ copied_length n

  pub copied_out : (n k : ℕ) → ((l : ℕ) → l < n → k ≢ i + l) → get_or (copied n to i from j) k 0 ≡ get_or to k 0
  unfolding copied
  copied_out zero k out = refl
  copied_out (suc n) k out =
      get_or-set_other (copied n to i from j) (i + n) k _ 0 (out n (omega arith)) ∙ copied_out n k (λ l h. out l (omega arith))

  pub copied_in : (n k : ℕ) → i + n ≤ length to → k < n → get_or (copied n to i from j) (i + k) 0 ≡ get_or from (j + k) 0
  unfolding copied
  copied_in zero k room h = absurd (let y : ⊥ = omega arith in y)
  copied_in (suc n) k room h = go (ℕ_discrete k n) (copied_in n k (omega arith))
    where
      go : Dec (k ≡ n) → (k < n → get_or (copied n to i from j) (i + k) 0 ≡ get_or from (j + k) 0)
          → get_or (set (copied n to i from j) (i + n) (get_or from (j + n) 0)) (i + k) 0 ≡ get_or from (j + k) 0
      go (yes e) _ = rw e (get_or-set_same (copied n to i from j) (i + n) _ 0 (omega (arith, copied_length n)))
      go (no e) before = get_or-set_other (copied n to i from j) (i + n) (i + k) _ 0 (λ w. e (omega arith)) ∙ before (omega arith)

module _ (to : List ℕ) (i : ℕ) (from : List ℕ) (j o : ℕ) (low : o < page_bytes) where
  pub page_here : start i + page_bytes ≤ length to → get_or (copied_page to i from j) (start i + o) 0 ≡ get_or from (start j + o) 0
  page_here room = copied_in to (start i) from (start j) page_bytes o room low

  pub page_else : (h : ℕ) → h ≢ i → get_or (copied_page to i from j) (start h + o) 0 ≡ get_or to (start h + o) 0
  page_else h apart = copied_out to (start i) from (start j) page_bytes (start h + o) (λ l b e. apart (omega arith))
