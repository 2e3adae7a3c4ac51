-- A property of each element of a list and its place. A fact of all 23 stages is put together so: one proof a stage, in order, and the stage's number
-- picks it. Assumes nothing.
use Rattle.std.specs.Prelude.{List, [], ◌∷◌, ℕ, zero, suc, ◌+◌, ◌<◌, length, get_or}
use Rattle.std.proofs.Common.{add-zero, zero-add, add-suc, suc-add, not-suc-le-zero, le_of_suc-le-suc}

-- counted from i
infixr 20 ◌also◌
pub data Each {ℓ} {A : Type ℓ} (P : ℕ → A → Type 0) : ℕ → List A → Type ℓ where
  fin : {i : ℕ} → Each P i []
  ◌also◌ : {i : ℕ} {x : A} {xs : List A} → P i x → Each P (suc i) xs → Each P i (x ∷ xs)

each_from {ℓ} : {A : Type ℓ} (P : ℕ → A → Type 0) (d : A) → ((j : ℕ) → P j d) → (l : List A) (i : ℕ) → Each P i l → (n : ℕ) → P (i + n) (get_or l n d)
each_from P d z [] i e n = z (i + n)
each_from P d z (x ∷ xs) i (a also r) zero = rw (add-zero i) a
each_from P d z (x ∷ xs) i (a also r) (suc n) = rw (add-suc i n, ← (suc-add i n)) (each_from P d z xs (suc i) r n)

pub each_at {ℓ} : {A : Type ℓ} (P : ℕ → A → Type 0) (d : A) → ((j : ℕ) → P j d) → (l : List A) → Each P 0 l → (n : ℕ) → P n (get_or l n d)
each_at P d z l e n = rw zero-add at (each_from P d z l 0 e n)

-- at a place of the list, whatever stands past its end
each_in_from {ℓ} : {A : Type ℓ} (P : ℕ → A → Type 0) (d : A) (l : List A) (i : ℕ) → Each P i l → (n : ℕ) → n < length l → P (i + n) (get_or l n d)
each_in_from P d [] i e n h = absurd (not-suc-le-zero h)
each_in_from P d (x ∷ xs) i (y also r) zero h = rw (add-zero i) y
each_in_from P d (x ∷ xs) i (y also r) (suc n) h = rw (add-suc i n, ← (suc-add i n)) (each_in_from P d xs (suc i) r n (le_of_suc-le-suc h))

pub each_in {ℓ} : {A : Type ℓ} (P : ℕ → A → Type 0) (d : A) (l : List A) → Each P 0 l → (n : ℕ) → n < length l → P n (get_or l n d)
each_in P d l e n h = rw zero-add at (each_in_from P d l 0 e n h)
