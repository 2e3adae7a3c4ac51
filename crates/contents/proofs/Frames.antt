-- What each frame has after each change of the memory: marks taken off, bytes and marks moved, a frame filled, a byte written. Assumes nothing.
use mathlib.Core.Path.{◌≡◌, refl, sym, ap, subst, ◌∙◌}
use mathlib.Core.Logic.{◌≢◌}
use mathlib.Core.Bool.{Bool, true, false, not}
use mathlib.Core.List.{List}
use Prim.Native.Nat.{ℕ, ◌+◌, ◌*◌, ◌<◌}
use native.Mathlib.Omega.{arith}
use lib.Dec.{eqb, ltb}
use lib.ListN.{length, get_or, set, length-set}
use lib.Seq.{get_or-set_same, get_or-set_other}
use borrow.Author.Tests.{lt-ltb, not-true, not-false}
use Rattle.pool.specs.Limits.{max_frames}
use Rattle.pool.specs.Choose.{choose, both}
use Rattle.pool.specs.State.{none}
use Rattle.laws.specs.Choices.{by_test, chosen, passed}
use Rattle.laws.specs.Scans.{both_yes}
use Rattle.memory.specs.Memory.{page_bytes, start, is_frame, byte, mark, is_filled, is_changed, store_byte, copied_page, unmarked, moved, filled_from, written, cell}
use Rattle.memory.specs.declared.Memory.{Memory}
use Rattle.memory.specs.Copying.{copied_length, page_here, page_else}

-- the lists are as long as the largest pool needs
pub record Long (m : Memory) : Type 0 where
  pub bytes : length m.bytes ≡ page_bytes * max_frames
  pub filled : length m.filled ≡ max_frames
  pub changed : length m.changed ≡ max_frames

-- a frame has no mark
pub record Off (m : Memory) (f : ℕ) : Type 0 where
  pub filled : is_filled m f ≡ false
  pub changed : is_changed m f ≡ false

-- frame h of memory n has what frame f of memory m has
pub record Same (n : Memory) (h : ℕ) (m : Memory) (f : ℕ) : Type 0 where
  pub filled : is_filled n h ≡ is_filled m f
  pub changed : is_changed n h ≡ is_changed m f
  pub bytes : (o : ℕ) → o < page_bytes → byte n h o ≡ byte m f o

pub same : (m : Memory) (f : ℕ) → Same m f m f
same m f = record { filled = refl; changed = refl; bytes = λ _ _. refl }

pub off_same : {n m : Memory} {h f : ℕ} → Same n h m f → Off m f → Off n h
off_same e o = record { filled = e.filled ∙ o.filled; changed = e.changed ∙ o.changed }

-- what is no frame has none
pub none_off : (m : Memory) → Off m none
unfolding mark is_filled is_changed is_frame choose
none_off m = record { filled = refl; changed = refl }

-- ---- what a page has in a frame

module _ (m : Memory) (s : List ℕ) (f g o : ℕ) where
  pub cell_filled : is_filled m f ≡ true → cell m s f g o ≡ byte m f o
  unfolding cell
  cell_filled e = chosen _ _ _ e

  pub cell_unfilled : is_filled m f ≡ false → cell m s f g o ≡ store_byte s g o
  unfolding cell
  cell_unfilled e = passed _ _ _ e

pub cell_same : {n m : Memory} {h f : ℕ} → Same n h m f → (t s : List ℕ) (g o : ℕ) → o < page_bytes → store_byte t g o ≡ store_byte s g o
    → cell n t h g o ≡ cell m s f g o
unfolding cell
cell_same e t s g o low st = rw (e.filled, e.bytes o low, st) refl

-- ---- a list of marks, a list of bytes

frame : (f : ℕ) → f < max_frames → is_frame f ≡ true
unfolding is_frame
frame f low = lt-ltb f max_frames low

pub byte_is : (m : Memory) (f o : ℕ) → f < max_frames → byte m f o ≡ get_or m.bytes (start f + o) 0
unfolding byte
byte_is m f o low = chosen _ _ _ (frame f low)

mark_here : (l : List ℕ) (f b : ℕ) → length l ≡ max_frames → f < max_frames → mark (set l f b) f ≡ not (eqb b 0)
unfolding mark
mark_here l f b e low = chosen _ _ _ (frame f low) ∙ ap (λ (y : ℕ). not (eqb y 0)) (get_or-set_same l f b 0 (omega (arith, e)))

mark_else : (l : List ℕ) (f b h : ℕ) → h ≢ f → mark (set l f b) h ≡ mark l h
unfolding mark
mark_else l f b h n = ap (λ (y : ℕ). choose (is_frame h) (not (eqb y 0)) false) (get_or-set_other l f h b 0 n)

-- a frame's byte is the one at its place in the list
placed : (h : ℕ) {a b : ℕ} → a ≡ b → choose (is_frame h) a 0 ≡ choose (is_frame h) b 0
placed h e = ap (λ (y : ℕ). choose (is_frame h) y 0) e

-- ---- nothing moves from or to what is no frame

pub none_moves : (m : Memory) (f : ℕ) → moved m none f ≡ m
unfolding moved is_frame both choose
none_moves m f = refl

pub moves_to_none : (m : Memory) (e : ℕ) → moved m e none ≡ m
unfolding moved is_frame both choose
moves_to_none m e = passed _ _ _ (go (ltb e max_frames))
  where
    go : (t : Bool) → choose t false false ≡ false
    go true = refl
    go false = refl

module _ (m : Memory) (l : Long m) where
  -- ---- marks taken off

  module _ (f : ℕ) (low : f < max_frames) where
    pub record Unmarked (n : Memory) : Type 0 where
      pub pages : n.pages ≡ m.pages
      pub long : Long n
      pub here : Off n f
      pub else : (h : ℕ) → h ≢ f → Same n h m h

    pub unmarks : Unmarked (unmarked m f)
    unfolding unmarked is_filled is_changed byte
    unmarks =
        subst Unmarked (sym (chosen _ _ _ (frame f low)))
        (record {
          pages = refl;
          long = record { bytes = l.bytes; filled = length-set m.filled f 0 ∙ l.filled; changed = length-set m.changed f 0 ∙ l.changed };
          here = record { filled = mark_here m.filled f 0 l.filled low; changed = mark_here m.changed f 0 l.changed low };
          else = λ h n. record { filled = mark_else m.filled f 0 h n; changed = mark_else m.changed f 0 h n; bytes = λ _ _. refl };
        })

  -- ---- bytes and marks moved from frame e to frame f

  module _ (e f : ℕ) (apart : e ≢ f) (low_e : e < max_frames) (low_f : f < max_frames) where
    pub record Moved (n : Memory) : Type 0 where
      pub pages : n.pages ≡ m.pages
      pub long : Long n
      pub to : Same n f m e
      pub from : Off n e
      pub else : (h : ℕ) → h ≢ e → h ≢ f → Same n h m h

    -- a list of marks, of which f gets e's
    module _ (k : List ℕ) (len : length k ≡ max_frames) where
      abbrev off : List ℕ
      off = set k e 0

      abbrev after : List ℕ
      after = set off f (get_or k e 0)

      after_length : length after ≡ max_frames
      after_length = length-set off f (get_or k e 0) ∙ length-set k e 0 ∙ len

      mark_to : mark after f ≡ mark k e
      unfolding mark
      mark_to = mark_here off f (get_or k e 0) (length-set k e 0 ∙ len) low_f ∙ sym (chosen _ _ _ (frame e low_e))

      mark_from : mark after e ≡ false
      mark_from = mark_else off f (get_or k e 0) e apart ∙ mark_here k e 0 len low_e

      mark_stays : (h : ℕ) → h ≢ e → h ≢ f → mark after h ≡ mark k h
      mark_stays h ne nf = mark_else off f (get_or k e 0) h nf ∙ mark_else k e 0 h ne

    pub moves : Moved (moved m e f)
    unfolding moved is_filled is_changed byte
    moves =
        subst Moved (sym (chosen _ _ _ (both_yes _ _ (frame e low_e) (frame f low_f))))
        (record {
          pages = refl;
          long = record {
            bytes = copied_length m.bytes (start f) m.bytes (start e) page_bytes ∙ l.bytes;
            filled = after_length m.filled l.filled;
            changed = after_length m.changed l.changed;
          };
          to = record {
            filled = mark_to m.filled l.filled;
            changed = mark_to m.changed l.changed;
            bytes = λ o h. chosen _ _ _ (frame f low_f) ∙ page_here m.bytes f m.bytes e o h (omega (arith, l.bytes)) ∙
                sym (chosen _ _ _ (frame e low_e));
          };
          from = record {
            filled = mark_from m.filled l.filled;
            changed = mark_from m.changed l.changed;
          };
          else = λ h ne nf. record {
            filled = mark_stays m.filled l.filled h ne nf;
            changed = mark_stays m.changed l.changed h ne nf;
            bytes = λ o low. placed h (page_else m.bytes f m.bytes e o low h nf);
          };
        })

  -- ---- frame f filled from page g of store s

  module _ (s : List ℕ) (f g : ℕ) (low : f < max_frames) (inside : g < m.pages) where
    pub record Filled (n : Memory) : Type 0 where
      pub pages : n.pages ≡ m.pages
      pub long : Long n
      pub here : is_filled n f ≡ true
      pub changed : (h : ℕ) → is_changed n h ≡ is_changed m h
      pub holds : (o : ℕ) → o < page_bytes → byte n f o ≡ cell m s f g o
      pub else : (h : ℕ) → h ≢ f → Same n h m h

    was_filled : is_filled m f ≡ true → Filled m
    was_filled e =
        record {
          pages = refl;
          long = l;
          here = e;
          changed = λ _. refl;
          holds = λ o _. sym (cell_filled m s f g o e);
          else = λ h _. same m h;
        }

    is_filled_lem : is_filled m f ≡ false
        → Filled (record { pages = m.pages; bytes = copied_page m.bytes f s g; filled = set m.filled f 1; changed = m.changed })
    unfolding is_filled is_changed byte store_byte
    is_filled_lem e =
        record {
          pages = refl;
          long = record {
            bytes = copied_length m.bytes (start f) s (start g) page_bytes ∙ l.bytes;
            filled = length-set m.filled f 1 ∙ l.filled;
            changed = l.changed;
          };
          here = mark_here m.filled f 1 l.filled low;
          changed = λ _. refl;
          holds = λ o h. chosen _ _ _ (frame f low) ∙ page_here m.bytes f s g o h (omega (arith, l.bytes)) ∙ sym (cell_unfilled m s f g o e);
          else = λ h n. record {
            filled = mark_else m.filled f 1 h n;
            changed = refl;
            bytes = λ o a. placed h (page_else m.bytes f s g o a h n);
          };
        }

    -- here the test of `filled_from` is whether the frame is not filled
    guard : (t : Bool) → both (is_frame f) (both (not t) (ltb g m.pages)) ≡ not t
    unfolding both choose
    guard t = rw (frame f low, lt-ltb g m.pages inside) (go t)
      where
        go : (t : Bool) → choose (not t) true false ≡ not t
        go true = refl
        go false = refl

    pub fills : Filled (filled_from m s f g)
    unfolding filled_from
    fills =
        by_test Filled (λ t. is_filled_lem (not-true (is_filled m f) (sym (guard (is_filled m f)) ∙ t)))
        (λ t. was_filled (not-false (is_filled m f) (sym (guard (is_filled m f)) ∙ t)))

  -- ---- byte v written at offset o of frame f

  module _ (f o v : ℕ) (low : f < max_frames) (offset : o < page_bytes) where
    pub record Written (n : Memory) : Type 0 where
      pub pages : n.pages ≡ m.pages
      pub long : Long n
      pub filled : (h : ℕ) → is_filled n h ≡ is_filled m h
      pub here : is_changed n f ≡ true
      pub holds : byte n f o ≡ v
      pub offsets : (i : ℕ) → i ≢ o → byte n f i ≡ byte m f i
      pub else : (h : ℕ) → h ≢ f → Same n h m h

    pub writes : Written (written m f o v)
    unfolding written is_filled is_changed byte
    writes =
        subst Written (sym (chosen _ _ _ (both_yes _ _ (frame f low) (lt-ltb o page_bytes offset))))
        (record {
          pages = refl;
          long = record { bytes = length-set m.bytes (start f + o) v ∙ l.bytes; filled = l.filled; changed = length-set m.changed f 1 ∙ l.changed };
          filled = λ _. refl;
          here = mark_here m.changed f 1 l.changed low;
          holds = chosen _ _ _ (frame f low) ∙ get_or-set_same m.bytes (start f + o) v 0 (omega (arith, l.bytes));
          offsets = λ i n. placed f (get_or-set_other m.bytes (start f + o) (start f + i) v 0 (λ w. n (omega arith)));
          else = λ h n. record {
            filled = refl;
            changed = mark_else m.changed f 1 h n;
            bytes = λ i b. placed h (get_or-set_other m.bytes (start f + o) (start h + i) v 0 (λ w. n (omega arith)));
          };
        })
