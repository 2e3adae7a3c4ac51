-- Marks on the remainders of pages tell that a page is new: whatever stood at an earlier place has its mark. Assumes nothing.
use Rattle.std.specs.Prelude.{◌≡◌, Bool, true, false, List, ℕ, ◌+◌, ◌%◌, ◌<◌, length, get_or, set}
use Rattle.std.proofs.Common.{◌∙◌, sym, ap, mod-lt, arith, length-set, get_or-set_same, get_or-set_other, true≢false}
use Rattle.std.proofs.Math.Decide.{ℕ_discrete}

-- the page at place i stands at no earlier place
pub record New (page : ℕ → ℕ) (i : ℕ) : Type 0 where
  pub apart : (j : ℕ) → j < i → page j ≡ page i → ⊥

-- m marks, after the pages at the places before i
pub record Marked (page : ℕ → ℕ) (m : ℕ) (marks : List Bool) (i : ℕ) : Type 0 where
  pub long : length marks ≡ m
  pub marked : (j : ℕ) → j < i → get_or marks (page j % m) false ≡ true

pub no_marks : (page : ℕ → ℕ) (m : ℕ) (marks : List Bool) → length marks ≡ m → Marked page m marks 0
no_marks page m marks e = record { long = e; marked = λ j h. let z : ⊥ = omega arith in absurd z }

module _ {page : ℕ → ℕ} {m : ℕ} {marks : List Bool} {i : ℕ} (r : Marked page m marks i) where
  pub unmarked : {b : Bool} → b ≡ get_or marks (page i % m) false → b ≡ false → New page i
  unmarked t e =
      record {
        apart = λ j h q.
            let same : get_or marks (page j % m) false ≡ get_or marks (page i % m) false = ap (λ g. get_or marks (g % m) false) q in
            absurd (true≢false (sym (r.marked j h) ∙ same ∙ sym t ∙ e));
      }

  pub mark : {after : List Bool} → 0 < m → after ≡ set marks (page i % m) true → Marked page m after (i + 1)
  mark some e = rw e (record { long = length-set marks (page i % m) true ∙ r.long; marked = λ j h. at j h (ℕ_discrete (page j % m) (page i % m)) })
    where
      at : (j : ℕ) → j < i + 1 → Dec (page j % m ≡ page i % m) → get_or (set marks (page i % m) true) (page j % m) false ≡ true
      at j h (yes d) = rw d (get_or-set_same marks _ true false (rw r.long (mod-lt (page i) some)))
      at j h (no d) =
          let later : (j ≡ i → ⊥) = λ e. d (ap (λ x. page x % m) e) in
          get_or-set_other marks _ _ true false d ∙ r.marked j (omega arith)
