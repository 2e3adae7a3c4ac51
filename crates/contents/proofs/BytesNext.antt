-- The frame of a mapped page is filled, and a byte of it is written: both keep the marks' part of the invariant; the first keeps what every page holds,
-- the second but for the byte that it writes. Assumes nothing.
use mathlib.Core.Path.{◌≡◌, refl, sym, ap, ◌∙◌}
use mathlib.Core.Logic.{◌≢◌}
use mathlib.Core.Bool.{true, true≢false}
use mathlib.Core.List.{List}
use Prim.Native.Nat.{ℕ, ◌*◌, ◌<◌}
use native.Mathlib.Omega.{arith}
use native.Mathlib.Decide.{ℕ_discrete}
use Rattle.pool.specs.State.{none, client}
use Rattle.pool.specs.Table.{lookup}
use Rattle.pool.specs.declared.Pool.{Pool}
use Rattle.invariant.proofs.Reached.{Reached}
use Rattle.memory.specs.Memory.{page_bytes, byte, is_filled, filled_from, written, content}
use Rattle.memory.specs.declared.Memory.{Memory}
use Rattle.contents.proofs.Frames.{off_same, Filled, fills, Written, writes}
use Rattle.contents.proofs.Kept.{PageOk, Marks, PageKept, stays, frame_kept, content_filled, content_kept, page_ok_next}
use Rattle.invariant.proofs.Lookups.{lookup_low, lookup_apart, lookup_not_own}

module _ (p : Pool) (r : Reached p) (s : List ℕ) (g : ℕ) (z : lookup p g ≢ none) (n : Memory) (k : Marks p n s) (inside : g < n.pages) where
  abbrev f : ℕ
  f = lookup p g

  not_own : (d : ℕ) → (client p d).own ≢ f
  not_own d e = lookup_not_own p r g d (λ w. z (sym e ∙ w)) (sym e)

  not_other : (h : ℕ) → h ≢ g → lookup p h ≢ f
  not_other h apart e = apart (sym (lookup_apart p r g h z (sym e)))

  some : n.pages ≢ 0
  some e = let y : ⊥ = omega (arith, inside) in y

  -- ---- filled

  abbrev N : Memory
  N = filled_from n s f g

  pub record FilledOk : Type 0 where
    pub pages : N.pages ≡ n.pages
    pub marks : Marks p N s
    pub full : is_filled N f ≡ true
    -- the byte that a read answers
    pub answers : (o : ℕ) → o < page_bytes → byte N f o ≡ content p n s g o
    pub holds : (h o : ℕ) → o < page_bytes → content p N s h o ≡ content p n s h o

  pub filled_ok : FilledOk
  unfolding content
  filled_ok =
      record {
        pages = fi.pages;
        marks = record {
          long = fi.long;
          store_long = k.store_long ∙ ap (λ (y : ℕ). page_bytes * y) (sym fi.pages);
          no_store = λ e. absurd (some (sym fi.pages ∙ e));
          own_off = λ d. off_same (fi.else _ (not_own d)) (k.own_off d);
          each = λ h. page_ok_next p n s p N s h (kept h (ℕ_discrete h g)) (k.each h);
        };
        full = fi.here;
        answers = fi.holds;
        holds = λ h. content_kept p n s p N s (kept h (ℕ_discrete h g));
      }
    where
      fi : Filled n k.long s f g (lookup_low p r g z) inside N
      fi = fills n k.long s f g (lookup_low p r g z) inside

      kept : (h : ℕ) → Dec (h ≡ g) → PageKept p n s p N s h
      kept h (yes e) =
          rw e (stays (fi.changed f) (λ _. fi.here) (λ o low. content_filled p N s g o fi.here ∙ fi.holds o low) (λ _ _. refl))
      kept h (no e) = frame_kept p n s p N s h (fi.else _ (not_other h e)) (λ _ _. refl)

  -- ---- written

  module _ (o v : ℕ) where
    abbrev W : Memory
    W = written n f o v

    pub record WrittenOk : Type 0 where
      pub pages : W.pages ≡ n.pages
      pub marks : Marks p W s
      pub makes : content p W s g o ≡ v
      pub holds : (h i : ℕ) → i < page_bytes → (h ≡ g → i ≢ o) → content p W s h i ≡ content p n s h i

    pub written_ok : is_filled n f ≡ true → o < page_bytes → WrittenOk
    written_ok full offset =
        record {
          pages = wr.pages;
          marks = record {
            long = wr.long;
            store_long = k.store_long ∙ ap (λ (y : ℕ). page_bytes * y) (sym wr.pages);
            no_store = λ e. absurd (some (sym wr.pages ∙ e));
            own_off = λ d. off_same (wr.else _ (not_own d)) (k.own_off d);
            each = λ h. each h (ℕ_discrete h g);
          };
          makes = content_filled p W s g o now_full ∙ wr.holds;
          holds = λ h i low other. holds h i low other (ℕ_discrete h g);
        }
      where
        wr : Written n k.long f o v (lookup_low p r g z) offset W
        wr = writes n k.long f o v (lookup_low p r g z) offset

        now_full : is_filled W f ≡ true
        now_full = wr.filled f ∙ full

        kept : (h : ℕ) → h ≢ g → PageKept p n s p W s h
        kept h e = frame_kept p n s p W s h (wr.else _ (not_other h e)) (λ _ _. refl)

        each : (h : ℕ) → Dec (h ≡ g) → PageOk p W s h
        each h (yes e) = rw e (record { changed_filled = λ _. now_full; clean = λ y. absurd (true≢false (sym wr.here ∙ y)) })
        each h (no e) = page_ok_next p n s p W s h (kept h e) (k.each h)

        holds : (h i : ℕ) → i < page_bytes → (h ≡ g → i ≢ o) → Dec (h ≡ g) → content p W s h i ≡ content p n s h i
        holds h i low other (yes e) = rw e (content_filled p W s g i now_full ∙ wr.offsets i (other e) ∙ sym (content_filled p n s g i full))
        holds h i low other (no e) = content_kept p n s p W s (kept h e) i low
