-- The table by frame, `mapped`, and its tie to the entries and to the look-up: as no frame is in two entries and no page in two, each way to read the
-- table tells the same. When one entry is put, the frame put is mapped to, the one it replaces is not, and every other frame keeps its entry.
-- Assumes nothing.
use mathlib.Core.Path.{◌≡◌, refl, sym, ap, ◌∙◌}
use mathlib.Core.Logic.{◌≢◌, ◌⊎◌, inl, inr}
use Prim.Native.Nat.{ℕ, zero, suc, ◌<◌}
use native.Mathlib.Omega.{arith}
use native.Mathlib.Decide.{ℕ_discrete}
use lib.Dec.{eqb}
use borrow.Author.Tests.{eqb-true, eqb-false, eq-eqb, ne_eqb}
use Rattle.pool.specs.State.{none, total, entry_page, entry_frame}
use Rattle.pool.specs.Table.{entry_of, lookup}
use Rattle.pool.specs.Apply.{entry_pages_after, entry_frames_after, apply}
use Rattle.pool.specs.declared.Pool.{Pool}
use Rattle.pool.specs.declared.Move.{Move}
use Rattle.pool.specs.declared.Write.TheVariants.{PutEntry}
use Rattle.laws.specs.Choices.{scan_ind}
use Rattle.laws.specs.Scans.{scan_none, scan_same, scan_only}
use Rattle.invariant.proofs.Reached.{Distinct, mapped, Shape}
use Rattle.invariant.proofs.After.{EntryPagesStay, EntryFramesStay, entry_in, entry_page_kept, entry_frame_kept, entry_page_here, entry_page_else}
use Rattle.invariant.proofs.After.{entry_frame_here, entry_frame_else}
use Rattle.invariant.proofs.Distinct.{distinct_put}
use Rattle.invariant.proofs.Searches.{lookup_found, lookup_is}

-- one more than a number is not 0
pub suc_not : {n g : ℕ} → n ≡ suc g → n ≢ 0
suc_not e z = let w : ⊥ = omega arith in w

pub some_suc : (n : ℕ) → n ≢ 0 → (g : ℕ) × (n ≡ suc g)
some_suc zero z = absurd (z refl)
some_suc (suc n) z = (n, refl)

-- ---- entries

module _ (p : Pool) (f : ℕ) where
  -- a frame that is mapped to has an entry
  pub mapped_entry : mapped p f ≢ 0 → (i : ℕ) × (entry_frame p i ≡ f) × (mapped p f ≡ suc (entry_page p i))
  unfolding mapped
  mapped_entry =
      scan_ind (λ i. eqb (entry_frame p i) f) (λ i. suc (entry_page p i)) 0 (λ r. r ≢ 0 → (i : ℕ) × (entry_frame p i ≡ f) × (r ≡ suc (entry_page p i)))
      (λ z. absurd (z refl)) 0 (total p) (λ i _ _ e _. (i, eqb-true _ _ e, refl))

  pub mapped_none : f ≢ none → mapped p f ≡ 0 → (i : ℕ) → entry_frame p i ≢ f
  unfolding mapped
  mapped_none z e i w =
      let h : i < total p = entry_in p i (λ n. z (sym w ∙ n)) in
      eqb-false _ _ (scan_none (λ i. eqb (entry_frame p i) f) (λ i. suc (entry_page p i)) 0 (λ r. r ≡ 0) 0 (total p)
      (λ _ _ _ q. let c : ⊥ = omega arith in c) e i (omega arith) (omega arith)) w

  pub mapped_zero : ((i : ℕ) → entry_frame p i ≢ f) → mapped p f ≡ 0
  mapped_zero h = elim (ℕ_discrete (mapped p f) 0) [ yes e ↦ e | no n ↦ (let r = mapped_entry n in absurd (h r.0 r.1)) ]

  mapped_is : Distinct (entry_frame p) none → f ≢ none → (i : ℕ) → entry_frame p i ≡ f → mapped p f ≡ suc (entry_page p i)
  unfolding mapped
  mapped_is apart z i e =
      scan_only (λ i. eqb (entry_frame p i) f) (λ i. suc (entry_page p i)) 0 0 (total p) i (omega arith)
      (let h : i < total p = entry_in p i (λ n. z (sym e ∙ n)) in omega arith) (eq-eqb _ _ e)
      (λ j t. let q : entry_frame p j ≡ f = eqb-true _ _ t in apart j i (λ n. z (sym q ∙ n)) (q ∙ sym e))

-- ---- the look-up

module _ (p : Pool) (shape : Shape p) where
  pub lookup_mapped : Distinct (entry_frame p) none → (g : ℕ) → lookup p g ≢ none → mapped p (lookup p g) ≡ suc g
  lookup_mapped apart g z =
      let f = lookup_found p shape g z in
      mapped_is p (lookup p g) apart z (entry_of p g) f.entry_frame ∙ ap suc f.entry_page

  -- the entry of a page, where no page has two
  pub mapped_lookup : ((i j : ℕ) → entry_frame p i ≢ none → entry_frame p j ≢ none → entry_page p i ≡ entry_page p j → i ≡ j)
      → (f g : ℕ) → f ≢ none → mapped p f ≡ suc g → (entry_frame p (entry_of p g) ≡ f) × (lookup p g ≡ f)
  mapped_lookup apart f g z e =
      let r = mapped_entry p f (suc_not e) in
      let i : ℕ = r.0 in
      let n : entry_frame p i ≢ none = λ w. z (sym r.1 ∙ w) in
      let pg : entry_page p i ≡ g = let q : suc (entry_page p i) ≡ suc g = sym r.2 ∙ e in omega arith in
      let l = lookup_is p shape g i (λ j y w. apart j i y n (w ∙ sym pg)) n pg in
      (ap (entry_frame p) l.0 ∙ r.1, l.1 ∙ r.1)

-- ---- after a move

module _ (p : Pool) (c : ℕ) (m : Move) where
  abbrev q : Pool
  q = apply p c m

  -- place i has the entry that it had, or has and had another frame than f
  abbrev SameEntry : ℕ → ℕ → Type 0
  SameEntry f i = ((entry_frame q i ≡ entry_frame p i) × (entry_page q i ≡ entry_page p i)) ⊎ ((entry_frame p i ≢ f) × (entry_frame q i ≢ f))

  mapped_same : (f : ℕ) → ((i : ℕ) → SameEntry f i) → mapped q f ≡ mapped p f
  unfolding mapped apply
  mapped_same f h =
      scan_same (λ i. eqb (entry_frame q i) f) (λ i. eqb (entry_frame p i) f) (λ i. suc (entry_page q i)) (λ i. suc (entry_page p i)) 0 0 (total p)
      (λ i _. tests i (h i)) (λ i _ t. pages i (eqb-true _ _ t) (h i))
    where
      tests : (i : ℕ) → SameEntry f i → eqb (entry_frame q i) f ≡ eqb (entry_frame p i) f
      tests i (inl e) = ap (λ (x : ℕ). eqb x f) e.0
      tests i (inr e) = ne_eqb _ _ e.1 ∙ sym (ne_eqb _ _ e.0)

      pages : (i : ℕ) → entry_frame p i ≡ f → SameEntry f i → suc (entry_page q i) ≡ suc (entry_page p i)
      pages i w (inl e) = ap suc e.1
      pages i w (inr e) = absurd (e.0 w)

  pub mapped_kept : EntryPagesStay p m.write → EntryFramesStay p m.write
      → (f : ℕ) → mapped q f ≡ mapped p f
  mapped_kept a b f = mapped_same f (λ i. inl (entry_frame_kept p c m b i, entry_page_kept p c m a i))

  -- one entry is put: at place j, page g and frame f
  module _ (shape : Shape p) (j g f : ℕ) (e : m.write ≡ PutEntry j g f) (here : j < total p) where
    pub put_frame : entry_frame q j ≡ f
    unfolding entry_frames_after
    put_frame = entry_frame_here p c m shape j f (rw e refl) here

    pub put_page : entry_page q j ≡ g
    unfolding entry_pages_after
    put_page = entry_page_here p c m shape j g (rw e refl) here

    pub else_frame : (i : ℕ) → i ≢ j → entry_frame q i ≡ entry_frame p i
    unfolding entry_frames_after
    else_frame = entry_frame_else p c m j f (rw e refl)

    pub else_page : (i : ℕ) → i ≢ j → entry_page q i ≡ entry_page p i
    unfolding entry_pages_after
    else_page = entry_page_else p c m j g (rw e refl)

    -- the frames that are neither the one put nor the one replaced keep their entries
    pub put_other : (x : ℕ) → x ≢ f → x ≢ entry_frame p j → mapped q x ≡ mapped p x
    put_other x a b = mapped_same x (λ i. go i (ℕ_discrete i j))
      where
        go : (i : ℕ) → Dec (i ≡ j) → SameEntry x i
        go i (no w) = inl (else_frame i w, else_page i w)
        go i (yes w) = inr (λ r. b (sym r ∙ ap (entry_frame p) w), λ r. a (sym r ∙ ap (entry_frame q) w ∙ put_frame))

    -- the frame put is in no other entry
    module _ (apart : Distinct (entry_frame p) none) (only : f ≢ none → (i : ℕ) → i ≢ j → entry_frame p i ≢ f) where
      pub put_distinct : Distinct (entry_frame q) none
      put_distinct =
          distinct_put (entry_frame p) (entry_frame q) none apart j else_frame (λ z i o w. only (λ n. z (put_frame ∙ n)) i o (w ∙ put_frame))

      pub put_new : f ≢ none → mapped q f ≡ suc g
      put_new z = mapped_is q f put_distinct z j put_frame ∙ ap suc put_page

      -- the frame that stood at the place is in no entry now
      pub put_replaced : entry_frame p j ≢ none → entry_frame p j ≢ f → mapped q (entry_frame p j) ≡ 0
      put_replaced z w = mapped_zero q (entry_frame p j) (λ i. go i (ℕ_discrete i j))
        where
          go : (i : ℕ) → Dec (i ≡ j) → entry_frame q i ≢ entry_frame p j
          go i (yes x) r = w (sym r ∙ ap (entry_frame q) x ∙ put_frame)
          go i (no x) r = x (sym (apart j i z (sym r ∙ else_frame i x)))

    -- an entry that a frame has now it had before, or it is the one put
    pub put_unmapped : (x : ℕ) → x ≢ none → mapped p x ≡ 0 → x ≢ f → mapped q x ≡ 0
    put_unmapped x z n w = mapped_zero q x (λ i. go i (ℕ_discrete i j))
      where
        go : (i : ℕ) → Dec (i ≡ j) → entry_frame q i ≢ x
        go i (yes y) r = w (sym r ∙ ap (entry_frame q) y ∙ put_frame)
        go i (no y) r = mapped_none p x z n i (sym (else_frame i y) ∙ r)
