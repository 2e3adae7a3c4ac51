-- What a move of a reached pool does to each thing that the layers speak of: the own frame, the slots, the pins, the found frame, the grants,
-- the table, the frames' pages. Each has a data type with the few ways it can happen, and each kind of move shows one. Assumes nothing.
use mathlib.Core.Path.{◌≡◌, refl, sym, ap, subst, ◌∙◌}
use mathlib.Core.Logic.{◌≢◌, ◌⊎◌, inl, inr}
use mathlib.Core.Bool.{false, not, ◌&&◌}
use mathlib.Core.List.{List}
use Prim.Native.Nat.{ℕ, suc, ◌+◌, ◌-◌, ◌≤◌, ◌<◌}
use native.Mathlib.Omega.{arith}
use lib.Dec.{T, eqb, ltb, leb}
use Rattle.pool.specs.Limits.{max_held}
use Rattle.pool.specs.Answers.{refusal_of}
use Rattle.pool.specs.State.{none, evicted, pinned, number_of_clients, total, slot, page, pins, count, entry_page, entry_frame, client}
use Rattle.pool.specs.Table.{entry_of, lookup}
use Rattle.pool.specs.Frames.{referenced, free_frame}
use Rattle.pool.specs.Grants.{grant_of}
use Rattle.pool.specs.Moves.{with_own, works}
use Rattle.pool.specs.Stages.{raised}
use Rattle.pool.specs.Apply.{slots_after, pages_after, pins_after, counts_after, entry_pages_after, entry_frames_after, free_after, last_after, apply}
use Rattle.pool.specs.declared.Pool.{Pool}
use Rattle.pool.specs.declared.Client.{Client}
use Rattle.pool.specs.declared.Move.{Move}
use Rattle.pool.specs.declared.Counted.{Counted}
use Rattle.pool.specs.declared.Counted.TheVariants.{Hit, Join, Admitted, Revived}
use Rattle.pool.specs.declared.GrantChange.TheVariants.{Same, Open, End}
use Rattle.pool.specs.declared.Write.{Write}
use Rattle.pool.specs.declared.Write.TheVariants.{PutSlot, PutPins, PutCount, TakeFrame, PutEntry}
use Rattle.invariant.proofs.After.{SlotsStay, PinsStay, PinsPut, PagesStay, PagesPut, CountsStay, CountsPut, EntryPagesStay, EntryFramesStay}
use Rattle.invariant.proofs.Writes.{counters_only, Untouched, untouched}
use Rattle.invariant.proofs.Reached.{Reached, mapped, InSlot, FoundMapped, unplaced, pins_found, unmapping}
use Rattle.invariant.proofs.Searches.{lookup_found, lookup_none, unused_found, grant_of_found, free_found}
use Rattle.invariant.proofs.Table.{suc_not, lookup_mapped}
use Rattle.invariant.proofs.Grants.{GrantsOk, grants_stay, grant_opens, grant_ends}
use Rattle.invariant.proofs.NeverFails.{mover}
use Rattle.invariant.proofs.StageTests.{differ, imp}
use Rattle.invariant.proofs.Facts.{raised_ok, first_ok, grant_pinned, found_pinned, one_more_pin}
use Rattle.invariant.proofs.Edges.{CountersOnly, keep, hand, counts, free, Edge, moves_on, grants, found1, found18, forgets2, forgets22, pins2, pins19}
use Rattle.invariant.proofs.Edges.{gets3, gets21, takes, fills, replaces, refuses, evicts14, removes, admits, revives, evicts20, evicts23, begins, releases}

-- none of the numbers 1 to 8, by which a run of a schedule ends; 8 is a stuck move
abbrev pub NotEnding : ℕ → Type 0
NotEnding n = T (not (ltb 0 n && leb n 8))

abbrev NotStuck : Move → Type 0
NotStuck m = NotEnding (refusal_of m.answer)

-- a write keeps free, the last frame taken and the counts in their ranges
pub data CountOk (p : Pool) (w : Write) : Type 0 where
  counts_stay : CountsStay p w → CountOk p w
  counts_put : (f x : ℕ) → CountsPut p w f x → x ≤ p.cap → CountOk p w

pub record WriteOk (p : Pool) (w : Write) : Type 0 where
  pub free_ok : free_after p.free w ≤ p.size
  pub last_ok : (last_after p.last w ≡ none) ⊎ (last_after p.last w < total p)
  pub count_ok : CountOk p w

module _ (p : Pool) (c : ℕ) (m : Move) where
  abbrev k : Client
  k = client p c

  -- how the client came by its own frame
  pub data OwnOk : Type 0 where
    own_forgotten : m.next.own ≡ none → OwnOk
    own_stays : m.next.own ≡ k.own → T (imp (unplaced m.next.stage) (unplaced k.stage)) → OwnOk
    own_taken : {n : ℕ} → k.stage ≡ 4 → m.next.own < total p → referenced p m.next.own ≡ false
        → m.write ≡ TakeFrame m.next.own m.next.page (pinned 1) n → OwnOk

  -- the slot at i is empty, or the client takes its evicted victim out of it
  abbrev pub Vacant : ℕ → Type 0
  Vacant i = (slot p i ≡ none) ⊎ ((slot p i ≡ k.victim) × (pins p k.victim ≡ evicted) × T (unmapping m.next.stage) × (m.next.victim ≡ k.victim))

  -- the own frame is put into a slot
  pub data SlotOk : Type 0 where
    slots_stay : SlotsStay p m.write → SlotOk
    slot_put : (i : ℕ) → m.write ≡ PutSlot i k.own → i < p.size → T (unplaced k.stage) → T (not (unplaced m.next.stage))
        → k.own ≢ none → Vacant i → SlotOk

  -- frame f gets pins x
  pub data PinChange (f x : ℕ) : Type 0 where
    adds : pins p f ≢ evicted → x ≡ pins p f + 1 → x ≤ pinned (number_of_clients p) → PinChange f x
    lowers : pinned 1 ≤ pins p f → x ≡ pins p f - 1 → PinChange f x
    evicts_victim : f ≡ k.victim → pins p f ≡ pinned 0 → x ≡ evicted → k.stage ≡ 14 → m.next.stage ≡ 15 → m.next.victim ≡ k.victim
        → m.next.place ≡ k.place → PinChange f x
    own_evicted : f ≡ k.own → x ≡ evicted → PinChange f x
    takes_one : referenced p f ≡ false → x ≡ pinned 1 → PinChange f x

  pub data PinsOk : Type 0 where
    pins_stay : PinsStay p m.write → PinsOk
    pins_put : (f x : ℕ) → PinsPut p m.write f x → f < total p → PinChange f x → PinsOk

  pub data FoundOk : Type 0 where
    found_stays : m.next.found ≡ k.found → FoundOk
    found_forgotten : m.next.found ≡ none → FoundOk
    found_looked_up : m.next.found < total p → mapped p m.next.found ≢ 0 → FoundOk

  -- whose frame f a new grant of page g names
  pub data Opened (g f : ℕ) : Type 0 where
    of_found : f ≡ k.found → f ≢ none → mapped p f ≡ suc g → pinned 1 ≤ pins p f → Opened g f
    of_own : (i : ℕ) → f ≡ k.own → f ≢ none → m.next.own ≡ none → m.write ≡ PutEntry i g f → i < total p → Opened g f

  -- a page is mapped to the own frame, at a place that is unused or whose frame is evicted; or the evicted victim's entry is removed
  pub data EntryOk : Type 0 where
    entries_stay : EntryPagesStay p m.write → EntryFramesStay p m.write → EntryOk
    maps : (i : ℕ) → m.write ≡ PutEntry i k.page k.own → i < total p → k.own ≢ none → m.next.own ≡ none → InSlot p k.own
        → (entry_frame p i ≡ none) ⊎ (pins p (entry_frame p i) ≡ evicted) → ((j : ℕ) → j ≢ i → entry_frame p j ≢ none → entry_page p j ≢ k.page) → EntryOk
    unmaps : (i g : ℕ) → m.write ≡ PutEntry i g none → i < total p → entry_frame p i ≡ k.victim → pins p k.victim ≡ evicted → EntryOk

  pub data PageOk : Type 0 where
    pages_stay : PagesStay p m.write → PageOk
    page_put : (f : ℕ) → referenced p f ≡ false → PagesPut p m.write f m.next.page → PageOk

  -- with what it comes from: a client of a reached pool made the move
  pub record Effect : Type 0 where
    pub here : c < number_of_clients p
    pub reached : Reached p
    pub own : OwnOk
    pub slot : SlotOk
    pub pins : PinsOk
    pub found : FoundOk
    pub grants : GrantsOk p c m
    pub opened : (g f : ℕ) → m.grants ≡ Open k.held g f → Opened g f
    pub entries : EntryOk
    pub pages : PageOk
    pub write_ok : WriteOk p m.write
    pub not_stuck : NotStuck m

-- the names by which the proofs about a move speak, opened in each: the pool is reached, the client is one of it, the client as it was, and the pool
-- after the move
pub record Scene (p : Pool) (c : ℕ) : Type 0 where
  pub r : Reached p
  pub here : c < number_of_clients p
  pub k : Client
  pub q : Pool

abbrev pub scene : {p : Pool} {c : ℕ} {m : Move} → Effect p c m → Scene p c
scene {p} {c} {m} x = record { r = x.reached; here = x.here; k = client p c; q = apply p c m }

-- ---- a write of counters alone leaves the lists

pub counters_test : {p : Pool} {w : Write} → CountersOnly p w → T (counters_only w)
counters_test keep = tt
counters_test hand = tt
counters_test (counts _) = tt
counters_test (free _) = tt

pub counters_untouched : {p : Pool} (n : ℕ) (l : List ℕ) {w : Write} → CountersOnly p w → Untouched n l w
counters_untouched n l {w} q = untouched n l w (counters_test q)

-- ---- each kind of move

pub no_open : {A : Type 0} {i g f : ℕ} → Same ≡ Open i g f → A
no_open e = let z : ◌≡◌ {A = ℕ} 0 1 = cc in absurd (let y : ⊥ = omega arith in y)

pub ends_no_open : {A : Type 0} {i l j g f : ℕ} → End i l ≡ Open j g f → A
ends_no_open e = let z : ◌≡◌ {A = ℕ} 0 1 = cc in absurd (let y : ⊥ = omega arith in y)

module _ (p : Pool) (c : ℕ) (here : c < number_of_clients p) (r : Reached p) where
  open mover p r c use {me, known}

  -- free, the last frame taken and the counts are not written
  unwritten : {w : Write} → free_after p.free w ≡ p.free → last_after p.last w ≡ p.last → CountsStay p w → WriteOk p w
  unwritten a b e = record { free_ok = rw a r.ranges.free_ok; last_ok = rw b r.ranges.last_ok; count_ok = counts_stay e }

  counters_written : {w : Write} → CountersOnly p w → WriteOk p w
  unfolding free_after last_after counts_after
  counters_written keep = unwritten refl refl refl
  counters_written hand = unwritten refl refl refl
  counters_written (counts {f} {x} h) = record { free_ok = r.ranges.free_ok; last_ok = r.ranges.last_ok; count_ok = counts_put f x refl h }
  counters_written (free h) = record { free_ok = h; last_ok = r.ranges.last_ok; count_ok = counts_stay refl }

  -- a write of counters alone: only the client changes
  client_only : {m : Move} → NotStuck m → CountersOnly p m.write → OwnOk p c m → FoundOk p c m → m.grants ≡ Same → m.next.held ≡ me.held → Effect p c m
  client_only {m} s w o f g h =
      record {
        here = here;
        reached = r;
        own = o;
        slot = slots_stay (counters_untouched _ _ w).slots;
        pins = pins_stay (counters_untouched _ _ w).pins;
        found = f;
        grants = grants_stay g h;
        opened = λ _ _ e. no_open (sym g ∙ e);
        entries = entries_stay (counters_untouched _ _ w).entry_pages (counters_untouched _ _ w).entry_frames;
        pages = pages_stay (counters_untouched _ _ w).pages;
        write_ok = counters_written w;
        not_stuck = s;
      }

  -- one frame's pins change, and no grant
  pinning : {m : Move} → NotStuck m → (f x : ℕ) → m.write ≡ PutPins f x → f < total p → PinChange p c m f x → OwnOk p c m → m.next.found ≡ me.found
      → GrantsOk p c m → ((g y : ℕ) → m.grants ≡ Open me.held g y → Opened p c m g y) → Effect p c m
  unfolding slots_after pins_after entry_pages_after entry_frames_after pages_after free_after last_after counts_after
  pinning s f x e h ch o fo g op =
      record {
        here = here;
        reached = r;
        own = o;
        slot = slots_stay (rw e refl);
        pins = pins_put f x (rw e refl) h ch;
        found = found_stays fo;
        grants = g;
        opened = op;
        entries = entries_stay (rw e refl) (rw e refl);
        pages = pages_stay (rw e refl);
        write_ok = unwritten (rw e refl) (rw e refl) (rw e refl);
        not_stuck = s;
      }

  -- the own frame goes into a slot
  placing : {m : Move} → NotStuck m → (i : ℕ) → m.write ≡ PutSlot i me.own → SlotOk p c m → OwnOk p c m → m.next.found ≡ me.found
      → m.grants ≡ Same → m.next.held ≡ me.held → Effect p c m
  unfolding slots_after pins_after entry_pages_after entry_frames_after pages_after free_after last_after counts_after
  placing so i e s o f g h =
      record {
        here = here;
        reached = r;
        own = o;
        slot = s;
        pins = pins_stay (rw e refl);
        found = found_stays f;
        grants = grants_stay g h;
        opened = λ _ _ x. no_open (sym g ∙ x);
        entries = entries_stay (rw e refl) (rw e refl);
        pages = pages_stay (rw e refl);
        write_ok = unwritten (rw e refl) (rw e refl) (rw e refl);
        not_stuck = so;
      }

  -- one entry of the table changes
  entering : {m : Move} → NotStuck m → (i g f : ℕ) → m.write ≡ PutEntry i g f → EntryOk p c m → OwnOk p c m → FoundOk p c m → GrantsOk p c m
      → ((g y : ℕ) → m.grants ≡ Open me.held g y → Opened p c m g y) → Effect p c m
  unfolding slots_after pins_after pages_after free_after last_after counts_after
  entering s i g f e en o fo gr op =
      record {
        here = here;
        reached = r;
        own = o;
        slot = slots_stay (rw e refl);
        pins = pins_stay (rw e refl);
        found = fo;
        grants = gr;
        opened = op;
        entries = en;
        pages = pages_stay (rw e refl);
        write_ok = unwritten (rw e refl) (rw e refl) (rw e refl);
        not_stuck = s;
      }

  -- what a look-up finds
  looking : (g : ℕ) → lookup p g ≢ none → (lookup p g < total p) × (mapped p (lookup p g) ≢ 0)
  looking g z =
      let f = lookup_found p r.shape g z in (
        subst (λ (x : ℕ). x < total p) f.entry_frame (r.ranges.entry_ok (entry_of p g) (λ w. z (sym f.entry_frame ∙ w))),
        suc_not (lookup_mapped p r.shape r.mapping.entries_distinct g z),
      )

  -- one more pin for the found frame
  pins_found_lem : (i j : ℕ) → (client p c).stage ≡ i → T (not (eqb i 0)) → T (not (pins_found i)) → T (imp (unplaced j) (unplaced i))
      → FoundMapped p me → pins p me.found ≢ evicted → Effect p c (works me j (PutPins me.found (pins p me.found + 1)))
  unfolding refusal_of
  pins_found_lem i j e w t u known l =
      let z = known.0 in
      let few : pins p me.found < pinned (number_of_clients p) = one_more_pin p r c here (λ s. differ i 0 w (sym e ∙ s)) (rw e t) z l (known.1 l) in
      pinning tt me.found _ refl (r.ranges.found_ok c z) (adds l refl (omega arith)) (own_stays refl (rw e u)) refl (grants_stay refl refl)
      (λ _ _ x. no_open x)

  -- a working client holds fewer than 8
  few : (i : ℕ) → (client p c).stage ≡ i → T (not (eqb i 0)) → me.held < max_held
  few i e z = omega (arith, r.ranges.working_held c (λ w. differ i 0 z (sym e ∙ w)))

  gets_found : (i : ℕ) (u : Counted) → (client p c).stage ≡ i → T (not (eqb i 0)) → T (pins_found i) → me.found ≢ none
      → (pins p me.found ≢ evicted → mapped p me.found ≡ suc me.page)
      → Effect p c (grants me me.found (PutCount me.found (raised p.cap (count p me.found))) u)
  unfolding slots_after pins_after entry_pages_after entry_frames_after pages_after free_after last_after counts_after refusal_of
  gets_found i u e w t z live =
      let two = found_pinned p r c (rw e t) z in
      record {
        here = here;
        reached = r;
        own = own_forgotten refl;
        slot = slots_stay refl;
        pins = pins_stay refl;
        found = found_forgotten refl;
        grants = grant_opens me.page me.found refl refl (few i e w);
        opened = λ g f x. let a : me.page ≡ g = cc in let b : f ≡ me.found = cc in
            of_found b (λ n. z (sym b ∙ n)) (ap (mapped p) b ∙ live (λ n. let y : ⊥ = omega arith in y) ∙ ap suc a) (rw b two);
        entries = entries_stay refl refl;
        pages = pages_stay refl;
        write_ok = counters_written (counts (raised_ok _ _ (r.ranges.count_ok me.found)));
        not_stuck = tt;
      }

  -- the page is mapped to the own frame, which is granted
  gets_own : (i n : ℕ) (u : Counted) → (client p c).stage ≡ i → T (not (eqb i 0)) → n < total p → me.own ≢ none
      → EntryOk p c (grants me me.own (PutEntry n me.page me.own) u) → Effect p c (grants me me.own (PutEntry n me.page me.own) u)
  unfolding refusal_of
  gets_own i n u e w h z en =
      entering tt n me.page me.own refl en (own_forgotten refl) (found_forgotten refl) (grant_opens me.page me.own refl refl (few i e w))
      (λ g f x. let a : g ≡ me.page = cc in let b : f ≡ me.own = cc in of_own n b (λ y. z (sym b ∙ y)) refl (rw (a, b) refl) h)

  evicts_own : (j : ℕ) → me.own ≢ none → Effect p c (works (with_own me none) j (PutPins me.own evicted))
  unfolding refusal_of
  evicts_own j z =
      pinning tt me.own evicted refl (r.ranges.own_ok c z) (own_evicted refl refl) (own_forgotten refl) refl (grants_stay refl refl)
      (λ _ _ x. no_open x)

  pub effect : {m : Move} → Edge p c m → Effect p c m
  unfolding slots_after pins_after entry_pages_after entry_frames_after pages_after free_after last_after counts_after refusal_of
  effect (moves_on n j w h) =
      client_only tt h.counters_only (own_stays h.same.own h.stages.from_unplaced) (found_stays h.same.found) refl h.same.held
  effect (found1 e z) = let l = looking me.page z in client_only tt keep (own_stays refl tt) (found_looked_up l.0 l.1) refl refl
  effect (found18 e z) = let l = looking me.page z in client_only tt keep (own_stays refl tt) (found_looked_up l.0 l.1) refl refl
  effect (forgets2 e d) = client_only tt keep (own_stays refl tt) (found_forgotten refl) refl refl
  effect (forgets22 e _) = client_only tt keep (own_stays refl tt) (found_forgotten refl) refl refl
  effect (pins2 e l) = pins_found_lem 2 3 e tt tt tt (known 2 e) l
  effect (pins19 e l) = pins_found_lem 19 20 e tt tt tt (known 19 e).1 l
  effect (gets3 e) = gets_found 3 Hit e tt tt (known 3 e).0 (known 3 e).1
  effect (gets21 e) = gets_found 21 Join e tt tt (known 21 e).0 (known 21 e).1
  effect (takes e z) =
      let f = free_found p r.shape z in
      record {
        here = here;
        reached = r;
        own = own_taken e f.0 f.1 refl;
        slot = slots_stay refl;
        pins = pins_put (free_frame p) (pinned 1) refl f.0 (takes_one f.1 refl);
        found = found_stays refl;
        grants = grants_stay refl refl;
        opened = λ _ _ x. no_open x;
        entries = entries_stay refl refl;
        pages = page_put (free_frame p) f.1 refl;
        write_ok = record { free_ok = r.ranges.free_ok; last_ok = inr f.0; count_ok = counts_put _ _ refl (first_ok _ me.page r.shape.cap_low) };
        not_stuck = tt;
      }
  effect (fills e s) =
      placing tt me.place refl (slot_put me.place refl (r.ranges.place_ok c) (rw e tt) tt (known 8 e) (inl s)) (own_stays refl tt) refl refl refl
  effect (replaces e s) =
      placing tt me.place refl (slot_put me.place refl (r.ranges.place_ok c) (rw e tt) tt (known 15 e).0 (inr (s, (known 15 e).1.1, tt, refl)))
      (own_stays refl tt) refl refl refl
  effect (refuses v _) = client_only tt keep (own_forgotten refl) (found_forgotten refl) refl refl
  effect (evicts14 e h) =
      let z = (known 14 e).1.0 in
      pinning tt me.victim evicted refl (r.ranges.victim_ok c z) (evicts_victim refl h refl e refl refl refl) (own_stays refl (rw e tt)) refl
      (grants_stay refl refl) (λ _ _ x. no_open x)
  effect (removes e h) =
      let z = (known 17 e).1.0 in
      let f = lookup_found p r.shape (page p me.victim) (λ w. z (sym h ∙ w)) in
      entering tt _ _ none refl (unmaps _ _ refl f.inside (f.entry_frame ∙ h) (known 17 e).1.1) (own_stays refl tt) (found_stays refl)
      (grants_stay refl refl) (λ _ _ x. no_open x)
  effect (admits e l u) =
      let f = unused_found p r.shape u in
      gets_own 18 _ Admitted e tt f.0 (known 18 e).0
      (maps _ refl f.0 (known 18 e).0 refl (known 18 e).1 (inl f.1) (λ j _ z. lookup_none p r.shape me.page l j z))
  effect (revives e l) =
      let z = (known 22 e).1.0 in
      let f = lookup_found p r.shape me.page (λ w. z (sym l ∙ w)) in
      let n : entry_frame p (entry_of p me.page) ≡ me.found = f.entry_frame ∙ l in
      gets_own 22 _ Revived e tt f.inside (known 22 e).0.0
      (maps _ refl f.inside (known 22 e).0.0 refl (known 22 e).0.1 (inr (ap (pins p) n ∙ (known 22 e).1.1))
      (λ j q y w. q (r.mapping.pages_distinct j (entry_of p me.page) y (λ x. z (sym n ∙ x)) (w ∙ sym f.entry_page))))
  effect (evicts20 e) = evicts_own 21 (known 20 e).0.0
  effect (evicts23 e) = evicts_own 4 (known 23 e).0
  effect (begins g e h _) = client_only tt keep (own_stays refl tt) (found_stays refl) refl refl
  effect (releases g e z) =
      let i : ℕ = grant_of p c g in
      let h = (grant_of_found p c g z).0 in
      let n = r.mapping.grant_named c i h in
      pinning tt _ _ refl (r.ranges.grant_ok c i n) (lowers (grant_pinned p r c i n) refl) (own_stays refl (rw e tt)) refl (grant_ends i refl refl h)
      (λ _ _ x. ends_no_open x)
