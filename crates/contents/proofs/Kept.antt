-- The invariant of the bytes, over that of the pool: `Kept`, which holds of every state from setup and calls. And when a change of pool, memory and store
-- keeps what a page holds, and with it the page's part of the invariant. Assumes nothing.
use mathlib.Core.Path.{◌≡◌, sym, ap, ◌∙◌}
use mathlib.Core.Logic.{◌≢◌}
use mathlib.Core.Bool.{true, false, true≢false}
use mathlib.Core.List.{List}
use Prim.Native.Nat.{ℕ, ◌*◌, ◌≤◌, ◌<◌}
use lib.ListN.{length}
use Rattle.pool.specs.State.{none, page, entry_page, entry_frame, client, grant_page}
use Rattle.pool.specs.Table.{lookup}
use Rattle.pool.specs.declared.Pool.{Pool}
use Rattle.invariant.proofs.Reached.{Reached}
use Rattle.memory.specs.Memory.{page_bytes, max_pages, byte, is_filled, is_changed, store_byte, content}
use Rattle.memory.specs.Requests.{State}
use Rattle.memory.specs.declared.Memory.{Memory}
use Rattle.contents.proofs.Frames.{Long, Off, Same, none_off, cell_filled, cell_unfilled, cell_same}

-- a page is inside a store of n pages, if there is one
abbrev pub Inside : ℕ → ℕ → Type 0
Inside n g = n ≢ 0 → g < n

-- every page number of the pool is
pub record PagesInside (n : ℕ) (p : Pool) : Type 0 where
  pub frames : (f : ℕ) → Inside n (page p f)
  pub entries : (i : ℕ) → entry_frame p i ≢ none → Inside n (entry_page p i)
  pub wanted : (c : ℕ) → (client p c).stage ≢ 0 → Inside n (client p c).page
  pub grants : (c i : ℕ) → i < (client p c).held → Inside n (grant_page p c i)

-- The frame that page g is mapped to is filled, if it is changed; and if it is not, the page holds what the store has. A page that is not mapped has
-- none for its frame, which has no marks, so both say nothing of it.
pub record PageOk (p : Pool) (m : Memory) (s : List ℕ) (g : ℕ) : Type 0 where
  pub changed_filled : is_changed m (lookup p g) ≡ true → is_filled m (lookup p g) ≡ true
  pub clean : is_changed m (lookup p g) ≡ false → (o : ℕ) → o < page_bytes → content p m s g o ≡ store_byte s g o

pub record Marks (p : Pool) (m : Memory) (s : List ℕ) : Type 0 where
  pub long : Long m
  pub store_long : length s ≡ page_bytes * m.pages
  pub no_store : m.pages ≡ 0 → (f : ℕ) → Off m f
  -- a frame that a client has taken and not mapped yet has no marks
  pub own_off : (c : ℕ) → Off m (client p c).own
  pub each : (g : ℕ) → PageOk p m s g

pub record Kept (x : State) : Type 0 where
  pub reached : Reached x.pool
  pub few : x.memory.pages ≤ max_pages
  pub inside : PagesInside x.memory.pages x.pool
  pub marks : Marks x.pool x.memory x.store

module _ (p : Pool) (m : Memory) (s : List ℕ) (g o : ℕ) where
  pub content_unfilled : is_filled m (lookup p g) ≡ false → content p m s g o ≡ store_byte s g o
  unfolding content
  content_unfilled e = cell_unfilled m s (lookup p g) g o e

  pub content_filled : is_filled m (lookup p g) ≡ true → content p m s g o ≡ byte m (lookup p g) o
  unfolding content
  content_filled e = cell_filled m s (lookup p g) g o e

  pub content_unmapped : lookup p g ≡ none → content p m s g o ≡ store_byte s g o
  content_unmapped e = content_unfilled (ap (is_filled m) e ∙ (none_off m).filled)

-- page g has the same bytes in two stores
abbrev pub SameStore : List ℕ → List ℕ → ℕ → Type 0
SameStore t s g = (o : ℕ) → o < page_bytes → store_byte t g o ≡ store_byte s g o

-- from pool p, memory m and store s to q, n and t
module _ (p : Pool) (m : Memory) (s : List ℕ) (q : Pool) (n : Memory) (t : List ℕ) where
  abbrev pub SameContent : ℕ → Type 0
  SameContent g = (o : ℕ) → o < page_bytes → content q n t g o ≡ content p m s g o

  -- page g holds what it held: in a frame that is changed if its frame was, or in the store alone
  pub data PageKept (g : ℕ) : Type 0 where
    stays : is_changed n (lookup q g) ≡ is_changed m (lookup p g) → (is_filled m (lookup p g) ≡ true → is_filled n (lookup q g) ≡ true) → SameContent g
        → SameStore t s g → PageKept g
    leaves : lookup q g ≡ none → ((o : ℕ) → o < page_bytes → store_byte t g o ≡ content p m s g o) → PageKept g

  pub frame_kept : (g : ℕ) → Same n (lookup q g) m (lookup p g) → SameStore t s g → PageKept g
  unfolding content
  frame_kept g e st = stays e.changed (λ y. e.filled ∙ y) (λ o low. cell_same e t s g o low (st o low)) st

  -- a page without marks before and after
  pub off_kept : (g : ℕ) → Off n (lookup q g) → Off m (lookup p g) → SameStore t s g → PageKept g
  off_kept g a b st =
      stays (a.changed ∙ sym b.changed) (λ y. absurd (true≢false (sym y ∙ b.filled)))
      (λ o low. content_unfilled q n t g o a.filled ∙ st o low ∙ sym (content_unfilled p m s g o b.filled)) st

  pub content_kept : {g : ℕ} → PageKept g → SameContent g
  content_kept (stays _ _ e _) = e
  content_kept {g} (leaves z e) = λ o low. content_unmapped q n t g o z ∙ e o low

  pub page_ok_next : (g : ℕ) → PageKept g → PageOk p m s g → PageOk q n t g
  page_ok_next g (stays c f e st) k =
      record {
        changed_filled = λ y. f (k.changed_filled (sym c ∙ y));
        clean = λ y o low. e o low ∙ k.clean (sym c ∙ y) o low ∙ sym (st o low);
      }
  page_ok_next g (leaves z _) _ =
      record {
        changed_filled = λ y. absurd (true≢false (sym y ∙ ap (is_changed n) z ∙ (none_off n).changed));
        clean = λ _ o _. content_unmapped q n t g o z;
      }
