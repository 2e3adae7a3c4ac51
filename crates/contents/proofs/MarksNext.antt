-- Over a move marks, bytes and store keep their part of the invariant, and every page holds what it held. First what a change of memory and store has to
-- show for that, page by page; then that the change of each way shows it. Assumes nothing.
use mathlib.Core.Path.{◌≡◌, refl, sym, ap, ◌∙◌}
use mathlib.Core.Logic.{◌≢◌, inl, inr}
use mathlib.Core.Bool.{Bool, true, false, true≢false}
use mathlib.Core.List.{List}
use Prim.Native.Nat.{ℕ, ◌*◌, ◌<◌}
use native.Mathlib.Omega.{arith}
use native.Mathlib.Decide.{ℕ_discrete}
use lib.Dec.{ltb}
use lib.ListN.{length}
use borrow.Author.Tests.{lt-ltb, ne_eqb}
use Rattle.pool.specs.Limits.{max_frames}
use Rattle.pool.specs.Choose.{choose, both}
use Rattle.pool.specs.State.{none, total, entry_frame, client}
use Rattle.pool.specs.Table.{lookup}
use Rattle.pool.specs.Frames.{referenced}
use Rattle.pool.specs.Apply.{apply}
use Rattle.pool.specs.declared.Pool.{Pool}
use Rattle.pool.specs.declared.Move.{Move}
use Rattle.pool.specs.declared.Write.TheVariants.{PutEntry}
use Rattle.laws.specs.Choices.{by_test, chosen, passed}
use Rattle.laws.specs.Scans.{both_yes}
use Rattle.invariant.proofs.Reached.{Reached}
use Rattle.invariant.proofs.After.{all_clients}
use Rattle.invariant.proofs.Writes.{lookup_kept}
use Rattle.invariant.proofs.Searches.{lookup_found, unreferenced_means}
use Rattle.invariant.proofs.Effects.{Effect, scene}
use Rattle.memory.specs.Memory.{page_bytes, start, is_changed, store_byte, unmarked, moved, memory_after, written_back, store_after, content}
use Rattle.memory.specs.declared.Memory.{Memory}
use Rattle.memory.specs.Copying.{copied_length, page_here, page_else}
use Rattle.contents.proofs.Frames.{Long, Off, Same, same, off_same, none_off, byte_is, none_moves, moves_to_none, Unmarked, unmarks, Moved, moves}
use Rattle.contents.proofs.Kept.{PagesInside, Marks, SameStore, SameContent, PageKept, leaves, frame_kept, off_kept, content_filled, content_kept}
use Rattle.contents.proofs.Kept.{page_ok_next}
use Rattle.invariant.proofs.Lookups.{low_frame, lookup_low, lookup_apart, lookup_not_own, put_lookup, put_lookup_else}
use Rattle.contents.proofs.Ways.{OwnKept, apart_means, Way, idles, takes_frame, removes_entry, puts_entry}

module _ {p : Pool} {c : ℕ} {m : Move} (x : Effect p c m) (rq : Reached (apply p c m)) (n : Memory) (s : List ℕ) (k : Marks p n s)
    (i : PagesInside n.pages p) where
  open scene x use {r, here, q, k as me}

  -- ---- a change to memory N and store S

  record Change (N : Memory) (S : List ℕ) : Type 0 where
    pages : N.pages ≡ n.pages
    long : Long N
    store_long : length S ≡ length s
    all_off : n.pages ≡ 0 → (f : ℕ) → Off N f
    others_off : (d : ℕ) → d ≢ c → Off N (client p d).own
    own_off : Off N m.next.own
    each : (g : ℕ) → PageKept p n s q N S g

  pub record Carried (N : Memory) (S : List ℕ) : Type 0 where
    pub pages : N.pages ≡ n.pages
    pub marks : Marks q N S
    pub holds : (g : ℕ) → SameContent p n s q N S g

  carry : (N : Memory) (S : List ℕ) → Change N S → Carried N S
  carry N S h =
      record {
        pages = h.pages;
        marks = record {
          long = h.long;
          store_long = h.store_long ∙ k.store_long ∙ ap (λ (y : ℕ). page_bytes * y) (sym h.pages);
          no_store = λ e. h.all_off (sym h.pages ∙ e);
          own_off = all_clients p c m r.shape (λ _ a. Off N a.own) here h.others_off h.own_off;
          each = λ g. page_ok_next p n s q N S g (h.each g) (k.each g);
        };
        holds = λ g. content_kept p n s q N S (h.each g);
      }

  -- a page that keeps its frame, where that keeps what it has
  elsewhere : (N : Memory) (S : List ℕ) (g : ℕ) → lookup q g ≡ lookup p g → Same N (lookup p g) n (lookup p g) → SameStore S s g → PageKept p n s q N S g
  elsewhere N S g e h st = frame_kept p n s q N S g (rw e h) st

  store_same : (g : ℕ) → SameStore s s g
  store_same _ _ _ = refl

  own_kept : OwnKept p c m → Off n m.next.own
  own_kept (inl e) = rw e (none_off n)
  own_kept (inr e) = rw e (k.own_off c)

  -- where the memory stays
  still : OwnKept p c m → (S : List ℕ) → length S ≡ length s → ((g : ℕ) → PageKept p n s q n S g) → Change n S
  still o S e each =
      record {
        pages = refl;
        long = k.long;
        store_long = e;
        all_off = k.no_store;
        others_off = λ d _. k.own_off d;
        own_off = own_kept o;
        each = each;
      }

  -- where page g gets frame f for the one that it had, or for none
  module _ (N : Memory) (S : List ℕ) (j g f : ℕ) (e : m.write ≡ PutEntry j g f) (l : j < total p) (was : lookup p g ≡ entry_frame p j) where
    each_put : (lookup q g ≡ f → PageKept p n s q N S g) → ((h : ℕ) → h ≢ g → Same N (lookup p h) n (lookup p h)) → ((h : ℕ) → h ≢ g → SameStore S s h)
        → (h : ℕ) → PageKept p n s q N S h
    each_put this frames stores h = go (ℕ_discrete h g)
      where
        go : Dec (h ≡ g) → PageKept p n s q N S h
        go (yes y) = rw y (this (put_lookup p c m r rq j g f e l was))
        go (no y) = elsewhere N S h (put_lookup_else p c m r rq j g f e l was h y) (frames h y) (stores h y)

  -- ---- 4: a frame is taken that nothing names

  module _ (f : ℕ) (l : f < total p) (free : referenced p f ≡ false) where
    low : f < max_frames
    low = low_frame p r f l

    u : Unmarked n k.long f low (unmarked n f)
    u = unmarks n k.long f low

    off : (h : ℕ) → Off n h → Off (unmarked n f) h
    off h was = go (ℕ_discrete h f)
      where
        go : Dec (h ≡ f) → Off (unmarked n f) h
        go (yes e) = rw e u.here
        go (no e) = off_same (u.else h e) was

    not_found : (g : ℕ) → lookup p g ≢ f
    not_found g e =
        let z : f ≢ none = λ w. let y : ⊥ = omega (arith, low) in y in
        (unreferenced_means p f z free).no_entry _ ((lookup_found p r.shape g (λ w. z (sym e ∙ w))).entry_frame ∙ e)

    take_change : ((g : ℕ) → lookup q g ≡ lookup p g) → m.next.own ≡ f → Change (unmarked n f) s
    take_change e o =
        record {
          pages = u.pages;
          long = u.long;
          store_long = refl;
          all_off = λ z h. off h (k.no_store z h);
          others_off = λ d _. off (client p d).own (k.own_off d);
          own_off = rw o u.here;
          each = λ g. elsewhere (unmarked n f) s g (e g) (u.else _ (not_found g)) (store_same g);
        }

  -- ---- 17: page g's entry is removed

  module _ (g : ℕ) (z : lookup p g ≢ none) where
    abbrev v : ℕ
    v = lookup p g

    abbrev S : List ℕ
    S = written_back n s g v none

    -- a changed frame's page is inside the store
    inside_store : is_changed n v ≡ true → g < n.pages
    inside_store ch =
        let f = lookup_found p r.shape g z in
        let some : n.pages ≢ 0 = λ w. true≢false (sym ch ∙ (k.no_store w v).changed) in
        rw f.entry_page at (i.entries _ (λ y. z (sym f.entry_frame ∙ y)) some)

    back_length : length S ≡ length s
    unfolding written_back
    back_length = by_test (λ (t : List ℕ). length t ≡ length s) (λ _. copied_length s (start g) n.bytes (start v) page_bytes) (λ _. refl)

    back_else : (h : ℕ) → h ≢ g → SameStore S s h
    unfolding written_back store_byte
    back_else h apart o l = by_test (λ (t : List ℕ). store_byte t h o ≡ store_byte s h o) (λ _. page_else s g n.bytes v o l h apart) (λ _. refl)

    back_here : (o : ℕ) → o < page_bytes → store_byte S g o ≡ content p n s g o
    unfolding written_back store_byte both choose
    back_here o l = go (is_changed n v) refl
      where
        go : (t : Bool) → is_changed n v ≡ t → store_byte S g o ≡ content p n s g o
        go false e =
            let y : both (is_changed n v) (ltb g n.pages) ≡ false = rw e refl in
            ap (λ (t : List ℕ). store_byte t g o) (passed _ _ _ y) ∙ sym ((k.each g).clean e o l)
        go true e =
            let b = inside_store e in
            ap (λ (t : List ℕ). store_byte t g o) (chosen _ _ _ (both_yes _ _ e (lt-ltb g n.pages b))) ∙
            page_here s g n.bytes v o l (omega (arith, b, k.store_long)) ∙ sym (byte_is n v o (lookup_low p r g z)) ∙
            sym (content_filled p n s g o ((k.each g).changed_filled e))

    remove_change : (j : ℕ) → m.write ≡ PutEntry j g none → j < total p → lookup p g ≡ entry_frame p j → OwnKept p c m → Change n S
    remove_change j e l was o = still o S back_length (each_put n S j g none e l was (λ y. leaves y back_here) (λ h _. same n _) back_else)

  -- ---- 18, 22: the page gets the own frame

  kept_store : (g e f : ℕ) → f ≢ none → written_back n s g e f ≡ s
  unfolding written_back both
  kept_store g e f z = passed _ _ _ (passed _ _ _ (ne_eqb f none z))

  module _ (j : ℕ) (e : m.write ≡ PutEntry j me.page me.own) (l : j < total p) (was : lookup p me.page ≡ entry_frame p j) (z : me.own ≢ none)
      (rests : m.next.own ≡ none) where
    -- it had none
    admit_change : lookup p me.page ≡ none → Change n s
    admit_change absent =
        still (inl rests) s refl
        (each_put n s j me.page me.own e l was
        (λ y. off_kept p n s q n s me.page (rw y (k.own_off c)) (rw absent (none_off n)) (store_same _)) (λ h _. same n _) (λ h _. store_same h))

    -- it had another frame
    module _ (y : lookup p me.page ≢ none) where
      abbrev old : ℕ
      old = lookup p me.page

      abbrev N : Memory
      N = moved n old me.own

      mv : Moved n k.long old me.own (lookup_not_own p r me.page c z) (lookup_low p r me.page y) (low_frame p r me.own (r.ranges.own_ok c z)) N
      mv = moves n k.long old me.own (lookup_not_own p r me.page c z) (lookup_low p r me.page y) (low_frame p r me.own (r.ranges.own_ok c z))

      revive_change : Change N s
      revive_change =
          record {
            pages = mv.pages;
            long = mv.long;
            store_long = refl;
            all_off = λ w h. all w h (ℕ_discrete h old) (ℕ_discrete h me.own);
            others_off = λ d o. others d o (ℕ_discrete (client p d).own none);
            own_off = rw rests (none_off N);
            each =
                each_put N s j me.page me.own e l was (λ a. frame_kept p n s q N s me.page (rw a mv.to) (store_same _))
                (λ h a. mv.else _ (λ b. a (sym (lookup_apart p r me.page h y (sym b)))) (lookup_not_own p r h c z)) (λ h _. store_same h);
          }
        where
          all : n.pages ≡ 0 → (h : ℕ) → Dec (h ≡ old) → Dec (h ≡ me.own) → Off N h
          all w h (yes a) _ = rw a mv.from
          all w h (no a) (yes b) = rw b (off_same mv.to (k.no_store w old))
          all w h (no a) (no b) = off_same (mv.else h a b) (k.no_store w h)

          others : (d : ℕ) → d ≢ c → Dec ((client p d).own ≡ none) → Off N (client p d).own
          others d o (yes a) = rw a (none_off N)
          others d o (no a) =
              off_same (mv.else _ (λ b. lookup_not_own p r me.page d a (sym b)) (λ b. o (r.places.owns_distinct d c a b))) (k.own_off d)

  -- ---- by the write

  to : {N M : Memory} {S T : List ℕ} → M ≡ N → T ≡ S → Change N S → Carried M T
  to {N} {S = S} a b h = rw (a, b) (carry N S h)

  pub carried : Way p c m → Carried (memory_after p n m.write) (store_after p n s m.write)
  unfolding memory_after store_after
  carried (idles t o) =
      let a = apart_means p m.write t in
      to (a.memory n) (a.store n s) (still o s refl (λ g. elsewhere n s g (lookup_kept p c m a.table g) (same n _) (store_same g)))
  carried (takes_frame f a b e l free o _) =
      to (ap (memory_after p n) e) (ap (store_after p n s) e) (take_change f l free (lookup_kept p c m (rw e tt)) o)
  carried (removes_entry j g e l was z o) =
      to (ap (memory_after p n) e ∙ moves_to_none n _) (ap (store_after p n s) e ∙ ap (λ (f : ℕ). written_back n s g f none) (sym was))
      (remove_change g z j e l was o)
  carried (puts_entry j e l was z o) = go (ℕ_discrete (lookup p me.page) none)
    where
      memory : memory_after p n m.write ≡ moved n (lookup p me.page) me.own
      memory = ap (memory_after p n) e ∙ ap (λ (f : ℕ). moved n f me.own) (sym was)

      store : store_after p n s m.write ≡ s
      store = ap (store_after p n s) e ∙ kept_store me.page (entry_frame p j) me.own z

      go : Dec (lookup p me.page ≡ none) → Carried (memory_after p n m.write) (store_after p n s m.write)
      go (yes y) = to (memory ∙ ap (λ (f : ℕ). moved n f me.own) y ∙ none_moves n _) store (admit_change j e l was z o y)
      go (no y) = to memory store (revive_change j e l was z o y)
