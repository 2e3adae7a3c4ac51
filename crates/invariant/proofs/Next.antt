-- What the effects of a move mean for the pool after it: a slot keeps its frame or gets the own one; a frame that somebody names and that is not
-- evicted keeps its slot and its entry, one that is evicted stays so, and none is mapped to but the own one. Assumes nothing.
use mathlib.Core.Path.{◌≡◌, refl, sym, ap, subst, ◌∙◌}
use mathlib.Core.Logic.{◌≢◌, ◌⊎◌, inl, inr}
use mathlib.Core.Bool.{false, not}
use Prim.Native.Nat.{ℕ, suc, ◌≤◌, ◌<◌}
use native.Mathlib.Omega.{arith}
use native.Mathlib.Decide.{ℕ_discrete}
use lib.Dec.{T}
use Rattle.pool.specs.Limits.{max_held}
use Rattle.pool.specs.State.{none, evicted, slot, page, pins, entry_frame, client, grant_page, grant_frame}
use Rattle.pool.specs.Frames.{referenced}
use Rattle.pool.specs.Apply.{slots_after}
use Rattle.pool.specs.declared.Pool.{Pool}
use Rattle.pool.specs.declared.Client.{Client}
use Rattle.pool.specs.declared.Move.{Move}
use Rattle.pool.specs.declared.GrantChange.TheVariants.{Open}
use Rattle.invariant.proofs.Reached.{mapped, InSlot, unplaced, unmapping}
use Rattle.invariant.proofs.After.{client_same, client_other, slot_kept, slot_here, slot_else, pins_kept, pins_here, pins_else, page_kept, page_else}
use Rattle.invariant.proofs.Searches.{unreferenced_means}
use Rattle.invariant.proofs.Table.{suc_not, mapped_entry, mapped_kept, put_other, put_unmapped}
use Rattle.invariant.proofs.Grants.{grant_page_other, grant_frame_other, GrantFrom, old, new, past, grant_from}
use Rattle.invariant.proofs.Effects.{Vacant, SlotOk, slots_stay, slot_put, PinChange, adds, lowers, evicts_victim, own_evicted, takes_one, PinsOk}
use Rattle.invariant.proofs.Effects.{pins_stay, pins_put, EntryOk, entries_stay, maps, unmaps, PageOk, pages_stay, page_put, Effect, scene}

module _ {p : Pool} {c : ℕ} {m : Move} (x : Effect p c m) where
  open scene x use {r, here, k, q}

  -- ---- slots

  -- a slot keeps its frame, or gets the own frame, which is placed by it
  abbrev pub SlotNow : ℕ → Type 0
  SlotNow i = (slot q i ≡ slot p i) ⊎ ((slot q i ≡ k.own) × T (unplaced k.stage) × T (not (unplaced m.next.stage)) × (k.own ≢ none))

  -- frame f is evicted and the mover replaces it in its slot
  abbrev pub Replaced : ℕ → Type 0
  Replaced f = (pins p f ≡ evicted) × T (unmapping m.next.stage) × (m.next.victim ≡ f)

  pub slot_now : (i : ℕ) → SlotNow i
  unfolding slots_after
  slot_now i = go x.slot
    where
      go : SlotOk p c m → SlotNow i
      go (slots_stay e) = inl (slot_kept p c m e i)
      go (slot_put j e h u v z _) = by (ℕ_discrete i j)
        where
          by : Dec (i ≡ j) → SlotNow i
          by (yes w) = inr (ap (slot q) w ∙ slot_here p c m r.shape j k.own (rw e refl) h, u, v, z)
          by (no w) = inl (slot_else p c m j k.own (rw e refl) i w)

  pub slot_or_replaced : (f i : ℕ) → f ≢ none → slot p i ≡ f → (slot q i ≡ f) ⊎ Replaced f
  unfolding slots_after
  slot_or_replaced f i z s = go x.slot
    where
      go : SlotOk p c m → (slot q i ≡ f) ⊎ Replaced f
      go (slots_stay e) = inl (slot_kept p c m e i ∙ s)
      go (slot_put j e h _ _ _ v) = by (ℕ_discrete i j) v
        where
          by : Dec (i ≡ j) → Vacant p c m j → (slot q i ≡ f) ⊎ Replaced f
          by (no w) _ = inl (slot_else p c m j k.own (rw e refl) i w ∙ s)
          by (yes w) (inl o) = absurd (z (sym s ∙ ap (slot p) w ∙ o))
          by (yes w) (inr o) =
              let v : k.victim ≡ f = sym o.0 ∙ ap (slot p) (sym w) ∙ s in
              inr (ap (pins p) (sym v) ∙ o.1, o.2, o.3 ∙ v)

  -- ---- one frame that somebody names

  module _ (f : ℕ) (z : f ≢ none) where
    -- evicted stays evicted, unless the frame is taken
    pub evicted_next : (referenced p f ≡ false → ⊥) → pins p f ≡ evicted → pins q f ≡ evicted
    evicted_next ref d = go x.pins
      where
        go : PinsOk p c m → pins q f ≡ evicted
        go (pins_stay e) = pins_kept p c m e f ∙ d
        go (pins_put g y e h ch) = by (ℕ_discrete f g) ch
          where
            at : f ≡ g → y ≡ evicted → pins q f ≡ evicted
            at w v = ap (pins q) w ∙ pins_here p c m r.shape g y e h ∙ v

            by : Dec (f ≡ g) → PinChange p c m g y → pins q f ≡ evicted
            by (no w) _ = pins_else p c m g y e f w ∙ d
            by (yes w) (adds l _ _) = absurd (l (ap (pins p) (sym w) ∙ d))
            by (yes w) (lowers l _) = absurd (let n : pins p g ≡ evicted = ap (pins p) (sym w) ∙ d in let y : ⊥ = omega arith in y)
            by (yes w) (evicts_victim _ _ v _ _ _ _) = at w v
            by (yes w) (own_evicted _ v) = at w v
            by (yes w) (takes_one ref' _) = absurd (ref (ap (referenced p) w ∙ ref'))

    pub in_slot_next : pins p f ≢ evicted → InSlot p f → InSlot q f
    in_slot_next l s = go (slot_or_replaced f s.0 z s.1)
      where
        go : (slot q s.0 ≡ f) ⊎ Replaced f → InSlot q f
        go (inl e) = (s.0, e)
        go (inr e) = absurd (l e.0)

    pub mapped_next : pins p f ≢ evicted → (g : ℕ) → mapped p f ≡ suc g → mapped q f ≡ suc g
    mapped_next l g e = go x.entries
      where
        not_own : k.own ≢ none → f ≢ k.own
        not_own o w = suc_not e (ap (mapped p) w ∙ r.private.own_unmapped c o)

        go : EntryOk p c m → mapped q f ≡ suc g
        go (entries_stay a b) = mapped_kept p c m a b f ∙ e
        go (maps i w h o _ _ v _) = put_other p c m r.shape i k.page k.own w h f (not_own o) (other v) ∙ e
          where
            other : (entry_frame p i ≡ none) ⊎ (pins p (entry_frame p i) ≡ evicted) → f ≢ entry_frame p i
            other (inl n) y = z (y ∙ n)
            other (inr n) y = l (ap (pins p) y ∙ n)
        go (unmaps i a w h v d) = put_other p c m r.shape i a none w h f z (λ y. l (ap (pins p) (y ∙ v) ∙ d)) ∙ e

    -- a frame that is not mapped to is not mapped to now, unless it is the own one
    pub unmapped_next : mapped p f ≡ 0 → (m.next.own ≡ none → k.own ≢ f) → mapped q f ≡ 0
    unmapped_next e o = go x.entries
      where
        go : EntryOk p c m → mapped q f ≡ 0
        go (entries_stay a b) = mapped_kept p c m a b f ∙ e
        go (maps i w h _ n _ _ _) = put_unmapped p c m r.shape i k.page k.own w h f z e (λ y. o n (sym y))
        go (unmaps i a w h _ _) = put_unmapped p c m r.shape i a none w h f z e z

    -- a frame's page changes only where it is taken
    pub page_next : (referenced p f ≡ false → ⊥) → page q f ≡ page p f
    page_next ref = go x.pages
      where
        go : PageOk p c m → page q f ≡ page p f
        go (pages_stay e) = page_kept p c m e f
        go (page_put g a e) = page_else p c m g _ e f (λ w. ref (ap (referenced p) w ∙ a))

  -- ---- who is named

  module _ (f : ℕ) (z : f ≢ none) where
    pub own_referenced : (d : ℕ) → (client p d).own ≡ f → referenced p f ≡ false → ⊥
    own_referenced d e n = (unreferenced_means p f z n).no_own d e

    pub found_referenced : (d : ℕ) → (client p d).found ≡ f → referenced p f ≡ false → ⊥
    found_referenced d e n = (unreferenced_means p f z n).no_found d e

    pub victim_referenced : (d : ℕ) → (client p d).victim ≡ f → referenced p f ≡ false → ⊥
    victim_referenced d e n = (unreferenced_means p f z n).no_victim d e

    pub mapped_referenced : mapped p f ≢ 0 → referenced p f ≡ false → ⊥
    mapped_referenced w n = let e = mapped_entry p f w in (unreferenced_means p f z n).no_entry e.0 e.1

  -- ---- grants: each was there, or is the one opened

  pub all_grants : (P : ℕ → ℕ → Type 0) → ((d i : ℕ) → i < (client p d).held → P (grant_page p d i) (grant_frame p d i))
      → ((g f : ℕ) → m.grants ≡ Open k.held g f → P g f) → (d i : ℕ) → i < (client q d).held → P (grant_page q d i) (grant_frame q d i)
  all_grants P olds opened d i h = go (ℕ_discrete d c)
    where
      few : (d : ℕ) → (client p d).held ≤ max_held
      few = r.ranges.held_ok

      mine : GrantFrom p c m r.shape here few i → i < m.next.held → P (grant_page q c i) (grant_frame q c i)
      mine (old j l a b) _ = rw (a, b) (olds c j l)
      mine (new g f e a b) _ = rw (a, b) (opened g f e)
      mine (past l) u = absurd (let y : ⊥ = omega arith in y)

      go : Dec (d ≡ c) → P (grant_page q d i) (grant_frame q d i)
      go (yes e) =
          rw e (mine (grant_from p c m r.shape here few x.grants i)
          (let u : (client q c).held ≡ m.next.held = ap (λ (n : Client). n.held) (client_same p c m r.shape here) in
          let v : (client q d).held ≡ (client q c).held = ap (λ (n : ℕ). (client q n).held) e in omega arith))
      go (no e) =
          rw (grant_page_other p c m r.shape here few x.grants d e i, grant_frame_other p c m r.shape here few x.grants d e i)
          (olds d i (subst (λ (n : Client). i < n.held) (client_other p c m d e) h))
