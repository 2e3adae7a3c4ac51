-- Every page number stays inside the store over a move. Assumes nothing.
use mathlib.Core.Path.{◌≡◌, refl, ap, ◌∙◌}
use mathlib.Core.Logic.{◌≢◌}
use Prim.Native.Nat.{ℕ, ◌<◌}
use native.Mathlib.Decide.{ℕ_discrete}
use Rattle.pool.specs.State.{none, total, page, entry_page, entry_frame, client}
use Rattle.pool.specs.Apply.{pages_after}
use Rattle.pool.specs.declared.Pool.{Pool}
use Rattle.pool.specs.declared.Move.{Move}
use Rattle.pool.specs.declared.Write.TheVariants.{PutEntry}
use Rattle.invariant.proofs.After.{PagesStay, all_clients, page_kept, page_here, page_else, entry_page_kept, entry_frame_kept}
use Rattle.invariant.proofs.Table.{put_frame, put_page, else_frame, else_page}
use Rattle.invariant.proofs.Effects.{Effect, EntryOk, entries_stay, maps, unmaps, scene}
use Rattle.invariant.proofs.Next.{all_grants}
use Rattle.contents.proofs.Kept.{Inside, PagesInside}
use Rattle.contents.proofs.Ways.{apart_means, Way, idles, takes_frame, removes_entry, puts_entry, Goes}

module _ {p : Pool} {c : ℕ} {m : Move} (x : Effect p c m) (w : Goes p c m) (n : ℕ) (i : PagesInside n p)
    (begun : (client p c).stage ≡ 0 → m.next.stage ≢ 0 → Inside n m.next.page) where
  open scene x use {r, here, k, q}

  wanted_next : (d : ℕ) → (client q d).stage ≢ 0 → Inside n (client q d).page
  wanted_next = all_clients p c m r.shape (λ _ a. a.stage ≢ 0 → Inside n a.page) here (λ d _. i.wanted d) (λ z. go z (ℕ_discrete k.stage 0))
    where
      go : m.next.stage ≢ 0 → Dec (k.stage ≡ 0) → Inside n m.next.page
      go z (yes e) = begun e z
      go z (no e) = rw (w.page z e) (i.wanted c e)

  frames_next : (f : ℕ) → Inside n (page q f)
  unfolding pages_after
  frames_next f = go w.way
    where
      kept : PagesStay p m.write → Inside n (page q f)
      kept e = rw (page_kept p c m e f) (i.frames f)

      go : Way p c m → Inside n (page q f)
      go (idles t _) = kept (apart_means p m.write t).pages
      go (takes_frame h _ _ e l _ _ z) = by (ℕ_discrete f h)
        where
          by : Dec (f ≡ h) → Inside n (page q f)
          by (yes y) = rw (y, page_here p c m r.shape h k.page (rw e refl) l) (i.wanted c z)
          by (no y) = rw (page_else p c m h k.page (rw e refl) f y) (i.frames f)
      go (removes_entry _ _ e _ _ _ _) = kept (rw e refl)
      go (puts_entry _ e _ _ _ _) = kept (rw e refl)

  entries_next : (j : ℕ) → entry_frame q j ≢ none → Inside n (entry_page q j)
  entries_next j z = go x.entries
    where
      put : (h g f : ℕ) → m.write ≡ PutEntry h g f → h < total p → (f ≢ none → Inside n g) → Dec (j ≡ h) → Inside n (entry_page q j)
      put h g f e l new (yes y) =
          rw (y, put_page p c m r.shape h g f e l) (new (λ o. z (ap (entry_frame q) y ∙ put_frame p c m r.shape h g f e l ∙ o)))
      put h g f e l new (no y) =
          rw (else_page p c m r.shape h g f e l j y) (i.entries j (λ o. z (else_frame p c m r.shape h g f e l j y ∙ o)))

      go : EntryOk p c m → Inside n (entry_page q j)
      go (entries_stay a b) = rw (entry_page_kept p c m a j) (i.entries j (λ o. z (entry_frame_kept p c m b j ∙ o)))
      -- a client with an own frame is at work
      go (maps h e l own _ _ _ _) =
          put h k.page k.own e l (λ _. i.wanted c (λ s. own (r.pin_counts.owns_none c (rw s tt)))) (ℕ_discrete j h)
      go (unmaps h g e l _ _) = put h g none e l (λ o. absurd (o refl)) (ℕ_discrete j h)

  pub pages_inside_next : PagesInside n q
  pages_inside_next =
      record {
        frames = frames_next;
        entries = entries_next;
        wanted = wanted_next;
        grants = all_grants x (λ g _. Inside n g) i.grants (λ g f e. let o = w.opens g f e in rw o.1 (i.wanted c o.0));
      }
