-- The table maps no page twice and no frame twice: an entry is written only for a page that has none, or in its place, and only with an own frame,
-- which is in none. A grant's frame keeps its entry as it is pinned, and a resident frame its slot. A frame that is not evicted has an entry or an
-- owner or is an orphan, because an own frame that its client gives up gets an entry, is evicted, or is left to nobody. A frame's page changes only
-- where 4 takes it, and then nobody names it. Assumes nothing.
use mathlib.Core.Path.{◌≡◌, refl, sym, ap, subst, ◌∙◌}
use mathlib.Core.Logic.{◌≢◌, ◌⊎◌, inl, inr}
use mathlib.Core.Bool.{Bool, true, false, true≢false}
use Prim.Native.Nat.{ℕ, suc, ◌<◌}
use native.Mathlib.Omega.{arith}
use native.Mathlib.Decide.{ℕ_discrete}
use lib.Dec.{T}
use Rattle.pool.specs.State.{none, evicted, total, page, pins, entry_page, entry_frame, client, grant_page, grant_frame}
use Rattle.pool.specs.Frames.{referenced}
use Rattle.pool.specs.Apply.{pages_after, pins_after, apply}
use Rattle.pool.specs.declared.Pool.{Pool}
use Rattle.pool.specs.declared.Client.{Client}
use Rattle.pool.specs.declared.Move.{Move}
use Rattle.pool.specs.declared.Write.TheVariants.{PutEntry}
use Rattle.invariant.proofs.Reached.{Reached, Distinct, Mapping, mapped, InSlot, Knows, Orphan, foundless, victimless}
use Rattle.invariant.proofs.After.{client_same, client_other, all_clients, pins_kept, pins_here, page_here, entry_page_kept, entry_frame_kept}
use Rattle.invariant.proofs.Distinct.{distinct_used, distinct_same}
use Rattle.invariant.proofs.Searches.{Unreferenced, unreferenced_means, grant_in, lookup_found, unused_found}
use Rattle.invariant.proofs.Table.{suc_not, some_suc, mapped_none, mapped_zero, mapped_kept, put_frame, put_page, else_frame, else_page, put_other}
use Rattle.invariant.proofs.Table.{put_distinct, put_new, put_replaced, put_unmapped}
use Rattle.invariant.proofs.NeverFails.{mover}
use Rattle.invariant.proofs.Facts.{grant_pinned}
use Rattle.invariant.proofs.StageTests.{never, imp_mp}
use Rattle.invariant.proofs.Edges.{Edge, moves_on, found1, found18, forgets2, forgets22, pins2, pins19, gets3, gets21, takes, fills, replaces, refuses}
use Rattle.invariant.proofs.Edges.{evicts14, removes, admits, revives, evicts20, evicts23, begins, releases}
use Rattle.invariant.proofs.Effects.{OwnOk, own_forgotten, own_stays, own_taken, Opened, of_found, of_own, EntryOk, entries_stay, maps}
use Rattle.invariant.proofs.Effects.{unmaps, Effect, scene}
use Rattle.invariant.proofs.Next.{evicted_next, in_slot_next, mapped_next, page_next, own_referenced, mapped_referenced, all_grants}
use Rattle.invariant.proofs.PinCounts.{orphan_stays, refused_orphan}
use Rattle.invariant.proofs.Knowing.{knows_next, learns}

-- ---- what a move has to show of its client

abbrev NoFound : Client → Type 0
NoFound n = T (foundless n.stage) → n.found ≡ none

abbrev NoVictim : Client → Type 0
NoVictim n = T (victimless n.stage) → n.victim ≡ none

record MappingCondition (p : Pool) (c : ℕ) (m : Move) : Type 0 where
  no_found : NoFound m.next
  no_victim : NoVictim m.next
  wants : (client p c).own ≢ none → m.next.own ≡ (client p c).own → m.next.page ≡ (client p c).page
  own_end : (client p c).own ≢ none → m.next.own ≢ (client p c).own
      → (mapped (apply p c m) (client p c).own ≢ 0) ⊎ ((pins (apply p c m) (client p c).own ≡ evicted) ⊎ Orphan (apply p c m) (client p c).own)

-- ---- the table after a move

module _ {p : Pool} {c : ℕ} {m : Move} (x : Effect p c m) where
  open scene x use {r, here, k, q}

  -- the own frame is in no entry, so no two have it where one gets it
  own_only : k.own ≢ none → (i : ℕ) → entry_frame p i ≢ k.own
  own_only z = mapped_none p k.own z (r.private.own_unmapped c z)

  own_mapped : (i g f : ℕ) → f ≡ k.own → f ≢ none → m.write ≡ PutEntry i g f → i < total p → mapped q f ≡ suc g
  own_mapped i g f e z w h =
      put_new p c m r.shape i g f w h r.mapping.entries_distinct (λ _ j _ y. own_only (λ n. z (e ∙ n)) j (y ∙ e)) z

  entries_next : Distinct (entry_frame q) none
  entries_next = go x.entries
    where
      go : EntryOk p c m → Distinct (entry_frame q) none
      go (entries_stay _ w) = distinct_same (entry_frame p) (entry_frame q) none r.mapping.entries_distinct (entry_frame_kept p c m w)
      go (maps i w h z _ _ _ _) = put_distinct p c m r.shape i k.page k.own w h r.mapping.entries_distinct (λ _ j _. own_only z j)
      go (unmaps i g w h _ _) = put_distinct p c m r.shape i g none w h r.mapping.entries_distinct (λ z. absurd (z refl))

  pages_next : (i j : ℕ) → entry_frame q i ≢ none → entry_frame q j ≢ none → entry_page q i ≡ entry_page q j → i ≡ j
  pages_next = go x.entries
    where
      -- the entry at n is put, with page g and frame f
      put : (n g f : ℕ) → m.write ≡ PutEntry n g f → n < total p → (f ≢ none → (i : ℕ) → i ≢ n → entry_frame p i ≢ none → entry_page p i ≢ g)
          → (i j : ℕ) → entry_frame q i ≢ none → entry_frame q j ≢ none → entry_page q i ≡ entry_page q j → i ≡ j
      put n g f w h new =
          distinct_used (λ i. entry_frame p i ≢ none) (λ i. entry_frame q i ≢ none) (entry_page p) (entry_page q) n r.mapping.pages_distinct
          (λ i o z y. z (else_frame p c m r.shape n g f w h i o ∙ y)) (else_page p c m r.shape n g f w h)
          (λ z i o y e. new (λ v. z (put_frame p c m r.shape n g f w h ∙ v)) i o y (e ∙ put_page p c m r.shape n g f w h))

      go : EntryOk p c m → (i j : ℕ) → entry_frame q i ≢ none → entry_frame q j ≢ none → entry_page q i ≡ entry_page q j → i ≡ j
      go (entries_stay v w) =
          let s : (i : ℕ) → entry_frame q i ≡ entry_frame p i = entry_frame_kept p c m w in
          let t : (i : ℕ) → entry_page q i ≡ entry_page p i = entry_page_kept p c m v in
          λ i j a b e. r.mapping.pages_distinct i j (λ n. a (s i ∙ n)) (λ n. b (s j ∙ n)) (sym (t i) ∙ e ∙ t j)
      go (maps n w h _ _ _ _ o) = put n k.page k.own w h (λ _. o)
      go (unmaps n g w h _ _) = put n g none w h (λ z. absurd (z refl))

  module _ (f : ℕ) (z : f ≢ none) where
    -- an entry that is new is that of the own frame, which stands in a slot
    pub new_entry : mapped p f ≡ 0 → mapped q f ≢ 0 → (f ≡ k.own) × InSlot p f × (mapped q f ≡ suc k.page) × (pins q f ≡ pins p f)
    unfolding pins_after
    new_entry e n = go x.entries
      where
        go : EntryOk p c m → (f ≡ k.own) × InSlot p f × (mapped q f ≡ suc k.page) × (pins q f ≡ pins p f)
        go (entries_stay a b) = absurd (n (mapped_kept p c m a b f ∙ e))
        go (maps i w h o _ s _ _) = by (ℕ_discrete f k.own)
          where
            by : Dec (f ≡ k.own) → (f ≡ k.own) × InSlot p f × (mapped q f ≡ suc k.page) × (pins q f ≡ pins p f)
            by (yes v) = (v, (s.0, s.1 ∙ sym v), ap (mapped q) v ∙ own_mapped i k.page k.own refl o w h, pins_kept p c m (rw w refl) f)
            by (no v) = absurd (n (put_unmapped p c m r.shape i k.page k.own w h f z e v))
        go (unmaps i g w h _ _) = absurd (n (put_unmapped p c m r.shape i g none w h f z e z))

    -- an entry that was there and is there is as it was
    entry_same : mapped p f ≢ 0 → mapped q f ≢ 0 → mapped q f ≡ mapped p f
    entry_same e n = go x.entries
      where
        go : EntryOk p c m → mapped q f ≡ mapped p f
        go (entries_stay a b) = mapped_kept p c m a b f
        go (maps i w h o _ _ _ _) = by (ℕ_discrete f (entry_frame p i))
          where
            not_own : f ≢ k.own
            not_own y = e (ap (mapped p) y ∙ r.private.own_unmapped c o)

            by : Dec (f ≡ entry_frame p i) → mapped q f ≡ mapped p f
            by (no v) = put_other p c m r.shape i k.page k.own w h f not_own v
            by (yes v) =
                absurd (n (ap (mapped q) v ∙ put_replaced p c m r.shape i k.page k.own w h r.mapping.entries_distinct (λ _ j _. own_only o j)
                (λ y. z (v ∙ y)) (λ y. not_own (v ∙ y))))
        go (unmaps i g w h _ _) = by (ℕ_discrete f (entry_frame p i))
          where
            by : Dec (f ≡ entry_frame p i) → mapped q f ≡ mapped p f
            by (no v) = put_other p c m r.shape i g none w h f z v
            by (yes v) =
                absurd (n (ap (mapped q) v ∙ put_replaced p c m r.shape i g none w h r.mapping.entries_distinct (λ y. absurd (y refl))
                (λ y. z (v ∙ y)) (λ y. z (v ∙ y))))

    unreferenced_or : Unreferenced p f ⊎ (referenced p f ≡ false → ⊥)
    unreferenced_or = go (referenced p f) refl
      where
        go : (t : Bool) → referenced p f ≡ t → Unreferenced p f ⊎ (referenced p f ≡ false → ⊥)
        go false e = inl (unreferenced_means p f z e)
        go true e = inr (λ w. true≢false (sym e ∙ w))

    resident_in_slot_next : pins q f ≢ evicted → mapped q f ≢ 0 → InSlot q f
    resident_in_slot_next l n = go (ℕ_discrete (mapped p f) 0)
      where
        in_slot : (referenced p f ≡ false → ⊥) → InSlot p f → InSlot q f
        in_slot a s = in_slot_next x f z (λ d. l (evicted_next x f z a d)) s

        go : Dec (mapped p f ≡ 0) → InSlot q f
        go (yes e) = let w = new_entry e n in in_slot (own_referenced x f z c (sym w.0)) w.1
        go (no e) =
            let a = mapped_referenced x f z e in
            in_slot a (r.mapping.resident_in_slot f z (λ d. l (evicted_next x f z a d)) e)

    mapped_or_owned_next : MappingCondition p c m → pins q f ≢ evicted → (mapped q f ≢ 0) ⊎ (((d : ℕ) × ((client q d).own ≡ f)) ⊎ Orphan q f)
    mapped_or_owned_next t l = go (ℕ_discrete m.next.own f) unreferenced_or
      where
        Goal : Type 0
        Goal = (mapped q f ≢ 0) ⊎ (((d : ℕ) × ((client q d).own ≡ f)) ⊎ Orphan q f)

        ended : (mapped q f ≢ 0) ⊎ ((pins q f ≡ evicted) ⊎ Orphan q f) → Goal
        ended (inl y) = inl y
        ended (inr (inl y)) = absurd (l y)
        ended (inr (inr y)) = inr (inr y)

        old : m.next.own ≢ f → pins p f ≢ evicted → (mapped p f ≢ 0) ⊎ (((d : ℕ) × ((client p d).own ≡ f)) ⊎ Orphan p f) → Goal
        old n a (inl y) = let g = some_suc (mapped p f) y in inl (suc_not (mapped_next x f z a g.0 g.1))
        old n a (inr (inr o)) = inr (inr (orphan_stays x f z o n))
        old n a (inr (inl d)) = owner (ℕ_discrete d.0 c)
          where
            owner : Dec (d.0 ≡ c) → Goal
            owner (no u) = inr (inl (d.0, ap (λ (n : Client). n.own) (client_other p c m d.0 u) ∙ d.1))
            owner (yes u) =
                let o : (client p c).own ≡ f = ap (λ (n : ℕ). (client p n).own) (sym u) ∙ d.1 in
                ended (subst (λ (f : ℕ). (mapped q f ≢ 0) ⊎ ((pins q f ≡ evicted) ⊎ Orphan q f)) o (t.own_end (λ y. z (sym o ∙ y)) (λ y. n (y ∙ o))))

        go : Dec (m.next.own ≡ f) → Unreferenced p f ⊎ (referenced p f ≡ false → ⊥) → Goal
        go (yes e) _ = inr (inl (c, ap (λ (n : Client). n.own) (client_same p c m r.shape here) ∙ e))
        go (no e) (inl w) =
            inr (inr (orphan_stays x f z
            (record { no_slot = w.no_slot; unmapped = mapped_zero p f w.no_entry; unowned = w.no_own; unfound = w.no_found; ungranted = w.no_grant }) e))
        go (no e) (inr w) = let a : pins p f ≢ evicted = λ d. l (evicted_next x f z w d) in old e a (r.mapping.mapped_or_owned f z a)

    mapped_page_next : (g : ℕ) → mapped q f ≡ suc g → page q f ≡ g
    mapped_page_next g e = go (ℕ_discrete (mapped p f) 0)
      where
        go : Dec (mapped p f ≡ 0) → page q f ≡ g
        go (no n) =
            page_next x f z (mapped_referenced x f z n) ∙ r.mapping.mapped_page f g z (sym (entry_same n (suc_not e)) ∙ e)
        go (yes n) =
            let w = new_entry n (suc_not e) in
            let s : suc k.page ≡ suc g = sym w.2 ∙ e in
            page_next x f z (own_referenced x f z c (sym w.0)) ∙ ap (page p) w.0 ∙ r.mapping.own_page c (λ y. z (w.0 ∙ y)) ∙
            omega arith

  -- ---- grants and own frames

  grant_mapped_next : (d i : ℕ) → grant_frame q d i ≢ none → mapped q (grant_frame q d i) ≡ suc (grant_page q d i)
  grant_mapped_next d i z =
      all_grants x (λ g f. f ≢ none → mapped q f ≡ suc g)
      (λ d i _ n. let two = grant_pinned p r d i n in
      mapped_next x (grant_frame p d i) n (λ e. let y : ⊥ = omega arith in y) (grant_page p d i) (r.mapping.grant_mapped d i n))
      (λ g f w. new (x.opened g f w)) d i (grant_in q d i z) z
    where
      new : {g f : ℕ} → Opened p c m g f → f ≢ none → mapped q f ≡ suc g
      new {g} {f} (of_found _ _ e two) n = mapped_next x f n (λ w. let y : ⊥ = omega arith in y) g e
      new {g} {f} (of_own i e n _ w h) _ = own_mapped i g f e n w h

  grant_named_next : (d i : ℕ) → i < (client q d).held → grant_frame q d i ≢ none
  grant_named_next = all_grants x (λ _ f. f ≢ none) r.mapping.grant_named (λ g f w. new (x.opened g f w))
    where
      new : {g f : ℕ} → Opened p c m g f → f ≢ none
      new (of_found _ z _ _) = z
      new (of_own _ _ z _ _ _) = z

  own_page_next : MappingCondition p c m → (d : ℕ) → (client q d).own ≢ none → page q (client q d).own ≡ (client q d).page
  unfolding pages_after
  own_page_next t =
      all_clients p c m r.shape (λ _ n. n.own ≢ none → page q n.own ≡ n.page) here
      (λ d _ z. page_next x (client p d).own z (own_referenced x (client p d).own z d refl) ∙ r.mapping.own_page d z) (mine x.own)
    where
      mine : OwnOk p c m → m.next.own ≢ none → page q m.next.own ≡ m.next.page
      mine (own_forgotten e) z = absurd (z e)
      mine (own_taken _ h _ w) z = page_here p c m r.shape m.next.own m.next.page (rw w refl) h
      mine (own_stays e _) z =
          let o : k.own ≢ none = λ y. z (e ∙ y) in
          ap (page q) e ∙ page_next x k.own o (own_referenced x k.own o c refl) ∙ r.mapping.own_page c o ∙ sym (t.wants o e)

  mapping_of : Edge p c m → MappingCondition p c m → Mapping q
  mapping_of e t =
      record {
        entries_distinct = entries_next;
        pages_distinct = pages_next;
        grant_mapped = grant_mapped_next;
        grant_named = grant_named_next;
        knowing = all_clients p c m r.shape (λ _ n. Knows n.stage q n) here (λ d _. knows_next x d (client p d).stage refl)
            (learns p c r e x);
        resident_in_slot = resident_in_slot_next;
        mapped_or_owned = λ f z. mapped_or_owned_next f z t;
        no_found = all_clients p c m r.shape (λ _ n. NoFound n) here (λ d _. r.mapping.no_found d) t.no_found;
        no_victim = all_clients p c m r.shape (λ _ n. NoVictim n) here (λ d _. r.mapping.no_victim d) t.no_victim;
        own_page = own_page_next t;
        mapped_page = λ f g z. mapped_page_next f z g;
      }

-- ---- each kind of move

module _ (p : Pool) (c : ℕ) (r : Reached p) where
  open mover p r c use {me, known}

  foundless_now : (i : ℕ) → (client p c).stage ≡ i → T (foundless i) → me.found ≡ none
  foundless_now i e t = r.mapping.no_found c (rw e t)

  victimless_now : (i : ℕ) → (client p c).stage ≡ i → T (victimless i) → me.victim ≡ none
  victimless_now i e t = r.mapping.no_victim c (rw e t)

  -- the own frame stays
  keeps_own : {m : Move} → m.next.own ≡ me.own → m.next.page ≡ me.page → NoFound m.next → NoVictim m.next → MappingCondition p c m
  keeps_own o g f v = record { no_found = f; no_victim = v; wants = λ _ _. g; own_end = λ _ n. absurd (n o) }

  -- the client had none
  had_no_own : {m : Move} → me.own ≡ none → NoFound m.next → NoVictim m.next → MappingCondition p c m
  had_no_own o f v = record { no_found = f; no_victim = v; wants = λ z _. absurd (z o); own_end = λ z _. absurd (z o) }

  -- it ends: with an entry, evicted, or as an orphan
  forgets_own : {m : Move} → m.next.own ≡ none → NoFound m.next → NoVictim m.next
      → (me.own ≢ none → (mapped (apply p c m) me.own ≢ 0) ⊎ ((pins (apply p c m) me.own ≡ evicted) ⊎ Orphan (apply p c m) me.own))
      → MappingCondition p c m
  forgets_own o f v w = record { no_found = f; no_victim = v; wants = λ z e. absurd (z (sym e ∙ o)); own_end = λ z _. w z }

  mapping_condition : {m : Move} → Edge p c m → Effect p c m → MappingCondition p c m
  unfolding pins_after
  mapping_condition (moves_on n j w h) x =
      keeps_own h.same.own h.same.page
      (λ t. h.same.found ∙ r.mapping.no_found c (imp_mp (foundless j) (foundless me.stage) h.stages.from_foundless t)) h.no_victim
  mapping_condition (found1 e _) x = keeps_own refl refl never (λ _. victimless_now 1 e tt)
  mapping_condition (found18 e _) x = keeps_own refl refl never (λ _. victimless_now 18 e tt)
  mapping_condition (forgets2 e _) x = keeps_own refl refl (λ _. refl) (λ _. victimless_now 2 e tt)
  mapping_condition (forgets22 e _) x = keeps_own refl refl (λ _. refl) (λ _. victimless_now 22 e tt)
  mapping_condition (pins2 e _) x = keeps_own refl refl never (λ _. victimless_now 2 e tt)
  mapping_condition (pins19 e _) x = keeps_own refl refl never (λ _. victimless_now 19 e tt)
  mapping_condition (gets3 e) x = had_no_own (r.pin_counts.owns_none c (rw e tt)) (λ _. refl) (λ _. refl)
  mapping_condition (gets21 e) x = had_no_own (r.pin_counts.owns_none c (rw e tt)) (λ _. refl) (λ _. refl)
  mapping_condition (takes e _) x = had_no_own (r.pin_counts.owns_none c (rw e tt)) (λ _. foundless_now 4 e tt) (λ _. victimless_now 4 e tt)
  mapping_condition (fills e _) x = keeps_own refl refl (λ _. foundless_now 8 e tt) (λ _. victimless_now 8 e tt)
  mapping_condition (replaces e _) x = keeps_own refl refl (λ _. foundless_now 15 e tt) never
  mapping_condition (refuses v _) x = forgets_own refl (λ _. refl) (λ _. refl) (λ z. inr (inr (refused_orphan p c r x v.is_unplaced z)))
  mapping_condition (evicts14 e _) x = keeps_own refl refl (λ _. foundless_now 14 e tt) never
  mapping_condition (removes e _) x = keeps_own refl refl (λ _. foundless_now 17 e tt) (λ _. refl)
  mapping_condition {m} (admits e _ u) x =
      forgets_own refl (λ _. refl) (λ _. refl) (λ z. inl (suc_not (own_mapped x _ _ me.own refl z refl (unused_found p r.shape u).0)))
  mapping_condition {m} (revives e l) x =
      forgets_own refl (λ _. refl) (λ _. refl)
      (λ z. inl (suc_not (own_mapped x _ _ me.own refl z refl (lookup_found p r.shape me.page (λ w. (known 22 e).1.0 (sym l ∙ w))).inside)))
  mapping_condition {m} (evicts20 e) x =
      forgets_own refl never (λ _. victimless_now 20 e tt) (λ z. inr (inl (pins_here p c m r.shape me.own evicted refl (r.ranges.own_ok c z))))
  mapping_condition {m} (evicts23 e) x =
      forgets_own refl (λ _. foundless_now 23 e tt) (λ _. victimless_now 23 e tt)
      (λ z. inr (inl (pins_here p c m r.shape me.own evicted refl (r.ranges.own_ok c z))))
  mapping_condition (begins g e _ _) x = had_no_own (r.pin_counts.owns_none c (rw e tt)) (λ _. foundless_now 0 e tt) (λ _. victimless_now 0 e tt)
  mapping_condition (releases g e _) x = keeps_own refl refl (λ _. foundless_now 0 e tt) (λ _. victimless_now 0 e tt)

  pub mapping_next : {m : Move} → Edge p c m → Effect p c m → Mapping (apply p c m)
  mapping_next {m} e x = mapping_of x e (mapping_condition e x)
