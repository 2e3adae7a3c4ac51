-- A move of the pool as a step of a related sequential pool. Each is one of six kinds: it only continues, adds a grant, answers one, admits a
-- page, evicts a page, or refuses; and each write leaves the view of every slot, or changes one. The premises of the sequential rules are clauses of the
-- invariant: the wanted page is there because its frame is not evicted, absent because the look-up finds none or an evicted frame, and the page that
-- 14 evicts has no grants because its frame has no pins. Assumes nothing.
use mathlib.Core.Path.{◌≡◌, refl, sym, ap, ◌∙◌}
use mathlib.Core.Logic.{◌≢◌, inl}
use mathlib.Core.Bool.{Bool, true, false, ◌&&◌}
use mathlib.Core.List.{List, [], ◌∷◌}
use Prim.Native.Nat.{ℕ, suc, ◌+◌, ◌≤◌, ◌<◌}
use native.Mathlib.Decide.{ℕ_discrete}
use native.Mathlib.Omega.{arith}
use lib.Dec.{T, eqb}
use lib.ListN.{length, get_or, set, length-set}
use lib.Seq.{get_or-set_same, get_or-set_other}
use borrow.Author.Tests.{ne_eqb}
use Rattle.pool.specs.Limits.{max_held}
use Rattle.pool.specs.Choose.{member}
use Rattle.pool.specs.State.{none, evicted, pinned, number_of_clients, total, slot, pins, entry_frame, client, grant_page, grant_frame}
use Rattle.pool.specs.Apply.{apply}
use Rattle.pool.specs.declared.Pool.{Pool}
use Rattle.pool.specs.declared.Client.{Client}
use Rattle.pool.specs.declared.Move.{Move}
use Rattle.pool.specs.declared.GrantChange.TheVariants.{Same}
use Rattle.pool.specs.declared.Write.TheVariants.{PutPins, PutEntry}
use Rattle.invariant.proofs.Reached.{Reached, one, mapped, pins_found, grants_of, InSlot, FoundMapped, Placed}
use Rattle.invariant.proofs.After.{client_same, client_other, pins_in}
use Rattle.invariant.proofs.Writes.{counters_only}
use Rattle.invariant.proofs.Sums.{sum_zero}
use Rattle.invariant.proofs.Facts.{own_pins, grant_pinned, found_mapped, unpinned_mapped}
use Rattle.invariant.proofs.Grants.{GrantsOk, grants_stay, grant_opens, grants_of_other, grants_of_keeps, grants_of_opens}
use Rattle.invariant.proofs.Table.{suc_not, some_suc}
use Rattle.invariant.proofs.Searches.{pins_named}
use Rattle.guarantee.specs.Sequential.{SeqSlot, empty, stores, SeqClient, Sequential, seq_slot, seq_resting, seq_client, Absent, Unused, adding}
use Rattle.guarantee.specs.Sequential.{admitting, answering, StepRule, adds, admits, evicts, answers, continues, refuses}
use Rattle.guarantee.proofs.SimulationRelation.{view_frame, view_unmapped, view_mapped, not_member, ClientRelation, open_many, open_grants}
use Rattle.guarantee.proofs.SimulationRelation.{client_relation_as, SimulationRelation}
use Rattle.guarantee.proofs.SeqClients.{Observable, observable, working_move, granted_move, refused_move, Continuing, WorksOn, IsGranted, related_resting}
use Rattle.guarantee.proofs.SeqClients.{related_working, related_pinned, related_answered, related_admitted}
use Rattle.guarantee.proofs.Frames.{same_frame, found_has_pin}
use Rattle.guarantee.proofs.Pages.{page_there, page_resident}
use Rattle.guarantee.proofs.ViewAfter.{SameView, ViewChanged, counters_view, pins_view, evict_view, map_view}

-- the move is a step of the sequential pool, and the two pools after it are related again
pub record Simulates (p : Pool) (c : ℕ) (q : Sequential) (m : Move) : Type 0 where
  pub slots : List SeqSlot
  pub next : SeqClient
  pub rule : StepRule q (seq_client q c) m.answer slots next
  pub related : SimulationRelation (apply p c m) (record { slots = slots; clients = set q.clients c next })

-- ---- the two pools after a move

-- client c of pool p acts, and q is related to p
pub record Acting (p : Pool) (c : ℕ) (q : Sequential) : Type 0 where
  pub here : c < number_of_clients p
  pub reached : Reached p
  pub related : SimulationRelation p q

module _ {p : Pool} {c : ℕ} {q : Sequential} (acting : Acting p c q) where
  here : c < number_of_clients p
  here = acting.here

  r : Reached p
  r = acting.reached

  related : SimulationRelation p q
  related = acting.related

  abbrev k : Client
  k = client p c

  abbrev t : SeqClient
  t = seq_client q c

  abbrev RelatedAfter : Move → List SeqSlot → SeqClient → Type 0
  RelatedAfter m slots next = SimulationRelation (apply p c m) (record { slots = slots; clients = set q.clients c next })

  client_related : ClientRelation k (grants_of p c) t
  client_related = related.clients c

  -- the pools after a move are related if the slots and the acting client are
  module _ (m : Move) (next : SeqClient) (how : GrantsOk p c m) (new : ClientRelation m.next (grants_of (apply p c m) c) next) where
    clients_now : (d : ℕ) → ClientRelation (client (apply p c m) d) (grants_of (apply p c m) d) (get_or (set q.clients c next) d (seq_resting []))
    clients_now d = go (ℕ_discrete d c)
      where
        go : Dec (d ≡ c) → ClientRelation (client (apply p c m) d) (grants_of (apply p c m) d) (get_or (set q.clients c next) d (seq_resting []))
        go (yes e) = rw (e, client_same p c m r.shape here, get_or-set_same q.clients c next (seq_resting []) (omega (arith, related.count))) new
        go (no z) =
            rw (client_other p c m d z, get_or-set_other q.clients c d next (seq_resting []) z)
            (client_relation_as (grants_of_other p c m r.shape here r.ranges.held_ok how d z) (related.clients d))

    with_slots : (slots : List SeqSlot) → length slots ≡ length q.slots
        → ((i : ℕ) → get_or slots i empty ≡ view_frame (apply p c m) (slot (apply p c m) i)) → RelatedAfter m slots next
    unfolding apply
    with_slots slots n e =
        record { size = n ∙ related.size; slots = e; count = length-set q.clients c next ∙ related.count; clients = clients_now }

    pub same_slots : SameView p c m → RelatedAfter m q.slots next
    same_slots same = with_slots q.slots refl (λ i. related.slots i ∙ sym (same i))

    one_slot : {j : ℕ} {x : SeqSlot} → ViewChanged p c m j x → RelatedAfter m (set q.slots j x) next
    one_slot {j} {x} h = with_slots (set q.slots j x) (length-set q.slots j x) (λ i. at i (ℕ_discrete i j))
      where
        at : (i : ℕ) → Dec (i ≡ j) → get_or (set q.slots j x) i empty ≡ view_frame (apply p c m) (slot (apply p c m) i)
        at i (yes e) = rw e (get_or-set_same q.slots j x empty (omega (arith, related.size, h.inside)) ∙ sym h.there)
        at i (no z) = get_or-set_other q.slots j i x empty z ∙ (related.slots i ∙ sym (h.others i z))

  -- ---- the acting client after a move

  few : (d : ℕ) → (client p d).held ≤ max_held
  few = r.ranges.held_ok

  module _ (m : Move) (j : ℕ) (o : observable m ≡ working_move k j) where
    same_held : m.next.held ≡ k.held
    same_held = ap (λ (x : Observable). x.held) o

    keeping : GrantsOk p c m
    keeping = grants_stay (ap (λ (x : Observable). x.grants) o) same_held

    works_on : k.stage ≢ 0 → WorksOn k m.next (grants_of p c) (grants_of (apply p c m) c) j
    works_on busy =
        record {
          works = busy;
          at_stage = ap (λ (x : Observable). x.stage) o;
          same_page = ap (λ (x : Observable). x.page) o;
          same_held = same_held;
          same_grants = grants_of_keeps p c m r.shape here few (ap (λ (x : Observable). x.grants) o) same_held;
        }

  module _ (m : Move) (f : ℕ) (o : observable m ≡ granted_move k f) (room : k.held < max_held) where
    more_held : m.next.held ≡ k.held + 1
    more_held = ap (λ (x : Observable). x.held) o

    opening : GrantsOk p c m
    opening = grant_opens k.page f (ap (λ (x : Observable). x.grants) o) more_held room

    is_granted : IsGranted k m.next (grants_of p c) (grants_of (apply p c m) c)
    is_granted =
        record {
          at_rest = ap (λ (x : Observable). x.stage) o;
          more_held = more_held;
          more_grants = grants_of_opens p c m r.shape here few k.page f (ap (λ (x : Observable). x.grants) o) more_held room;
        }

  -- ---- the six kinds of move

  module _ (busy : k.stage ≢ 0) where
    -- a page that is not pinned for its client yet is none of its grants
    wants_unheld : pins_found k.stage ≡ false → member t.wants t.grants ≡ false
    wants_unheld e =
        not_member t.wants t.grants
        (open_grants client_related e t.wants ∙ ap (grants_of p c) (client_related.wants busy) ∙ r.singles.wanted_unheld c busy)

    pub continues_one : (i j : ℕ) → k.stage ≡ i → {m : Move} → observable m ≡ working_move k j → Continuing i j → SameView p c m → Simulates p c q m
    continues_one i j e {m} o w same =
        record {
          slots = q.slots;
          next = record { stage = j; wants = t.wants; grants = t.grants };
          rule = rw (ap (λ (x : Observable). x.answer) o) (continues {j = j} (rw (client_related.stage ∙ e) w.plain_step) w.low w.high);
          related = same_slots m _ (keeping m j o) (related_working client_related (works_on m j o busy) (rw e w.pins_alike)) same;
        }

    pub adds_one : (i j : ℕ) → k.stage ≡ i → T (adding i j) → pins_found i ≡ false → pins_found j ≡ true → FoundMapped p k → pins p k.found ≢ evicted
        → {m : Move} → observable m ≡ working_move k j → m.write ≡ PutPins k.found (pins p k.found + 1) → Simulates p c q m
    adds_one i j e h pi pj know live {m} o w =
        let n : ℕ = pins p k.found in
        record {
          slots = q.slots;
          next = record { stage = j; wants = t.wants; grants = t.wants ∷ t.grants };
          rule =
              rw (ap (λ (x : Observable). x.answer) o)
              (adds {j = j} {f = k.found} (rw (client_related.stage ∙ e) h) (wants_unheld (rw e pi))
              (rw (client_related.wants busy) (page_there r related know.0 live (know.1 live))));
          related =
              same_slots m _ (keeping m j o) (related_pinned client_related (works_on m j o busy) pj (rw e pi))
              (pins_view p c m r k.found (n + 1) w (pins_in p k.found live) (inl (ne_eqb (n + 1) 0 (λ z. omega arith) ∙ sym (ne_eqb n 0 live))));
        }

    pub answers_one : (i : ℕ) → k.stage ≡ i → T (answering i) → pins_found i ≡ true → FoundMapped p k → k.held < max_held
        → {m : Move} → observable m ≡ granted_move k k.found → T (counters_only m.write) → Simulates p c q m
    answers_one i e h pi know room {m} o s =
        let live : pins p k.found ≢ evicted = λ z. omega (arith, found_has_pin p r c (rw e pi)) in
        record {
          slots = q.slots;
          next = seq_resting t.grants;
          rule =
              rw (ap (λ (x : Observable). x.answer) o)
              (answers {f = k.found} (rw (client_related.stage ∙ e) h)
              (rw (client_related.wants busy) (page_there r related know.0 live (know.1 live))));
          related =
              same_slots m _ (opening m k.found o room)
              (related_answered client_related (is_granted m k.found o room) (rw e pi)) (counters_view p c m r s);
        }

    -- the wanted page's frames are evicted, and so is the frame of the entry that the own frame gets
    pub admits_one : (i : ℕ) → k.stage ≡ i → T (admitting i) → pins_found i ≡ false → Placed p k → k.held < max_held
        → ((f : ℕ) → f ≢ none → mapped p f ≡ suc k.page → pins p f ≡ evicted) → (j : ℕ) → j < total p → pins p (entry_frame p j) ≡ evicted
        → {m : Move} → observable m ≡ granted_move k k.own → m.write ≡ PutEntry j k.page k.own → Simulates p c q m
    admits_one i e h pi own room gone j low out {m} o w =
        record {
          slots = set q.slots s x;
          next = seq_resting (t.wants ∷ t.grants);
          rule = rw (ap (λ (x : Observable). x.answer) o) (admits (rw (client_related.stage ∙ e) h) (wants_unheld (rw e pi)) absent unused s inside vacant);
          related = one_slot m _ (opening m k.own o room) (related_admitted client_related (is_granted m k.own o room) busy (rw e pi)) changed;
        }
      where
        s : ℕ
        s = own.1.0

        x : SeqSlot
        x = stores t.wants k.own

        unmapped : mapped p k.own ≡ 0
        unmapped = r.private.own_unmapped c own.0

        changed : ViewChanged p c m s x
        changed =
            rw (client_related.wants busy)
            (map_view p c m r j k.page k.own w low out own.0 unmapped (λ z. omega (arith, own_pins p r c own.0)) s own.1.1)

        inside : s < length q.slots
        inside = omega (arith, related.size, changed.inside)

        vacant : seq_slot q s ≡ empty
        vacant = related.slots s ∙ (ap (view_frame p) own.1.1 ∙ view_unmapped p k.own unmapped)

        absent : Absent q t.wants
        absent f at =
            let v = page_resident r related at in
            v.not_evicted (gone (slot p at.0) (pins_named p r.shape _ v.not_evicted) (v.entry ∙ ap suc (client_related.wants busy)))

        unused : Unused q k.own
        unused g at = let v = page_resident r related at in suc_not v.entry (ap (mapped p) v.frame ∙ unmapped)

    pub refuses_one : (i : ℕ) → k.stage ≡ i → pins_found i ≡ false → {m : Move} → observable m ≡ refused_move k → T (counters_only m.write) → Simulates p c q m
    refuses_one i e pi {m} o s =
        record {
          slots = q.slots;
          next = seq_resting t.grants;
          rule = rw (ap (λ (x : Observable). x.answer) o) refuses;
          related =
              same_slots m _ (grants_stay grants held)
              (related_resting (ap (λ (x : Observable). x.stage) o) (open_many client_related pk ∙ sym held)
              (λ g. open_grants client_related pk g ∙ sym (grants_of_keeps p c m r.shape here few grants held g))) (counters_view p c m r s);
        }
      where
        grants : m.grants ≡ Same
        grants = ap (λ (x : Observable). x.grants) o

        held : m.next.held ≡ k.held
        held = ap (λ (x : Observable). x.held) o

        pk : pins_found k.stage ≡ false
        pk = rw e pi

    -- a frame with no pin: its page has no grants
    unheld : (f g : ℕ) → f ≢ none → pins p f ≡ pinned 0 → mapped p f ≡ suc g → (d : ℕ) → member g (seq_client q d).grants ≡ false
    unfolding grants_of
    unheld f g z unpinned e d =
        let none_open = sum_zero (λ i. one (eqb (grant_page p d i) g)) (client p d).held (λ i h. ap one (ne_eqb _ _ (no_grant i h))) in
        not_member g (seq_client q d).grants ((related.clients d).grants g ∙ omega (arith, wanted (pins_found (client p d).stage) refl))
      where
        only : (h : ℕ) → h ≢ none → pinned 1 ≤ pins p h → mapped p h ≡ suc g → ⊥
        only h n two w =
            let same : pins p h ≡ pins p f = ap (pins p) (same_frame p r h f g n z w e) in
            omega arith

        no_grant : (i : ℕ) → i < (client p d).held → grant_page p d i ≢ g
        no_grant i h w =
            let n = r.mapping.grant_named d i h in
            only (grant_frame p d i) n (grant_pinned p r d i n) (r.mapping.grant_mapped d i n ∙ ap suc w)

        wanted : (b : Bool) → pins_found (client p d).stage ≡ b → one (b && eqb (client p d).page g) ≡ 0
        wanted false _ = refl
        wanted true s =
            let two = found_has_pin p r d s in
            let know = found_mapped p r d s in
            ap one (ne_eqb _ _ (λ w. only (client p d).found know.0 two (know.1 (λ x. omega arith) ∙ ap suc w)))

    pub evicts_one : k.stage ≡ 14 → k.victim ≢ none → pins p k.victim ≡ pinned 0 → InSlot p k.victim
        → {m : Move} → observable m ≡ working_move k 15 → m.write ≡ PutPins k.victim evicted → Simulates p c q m
    evicts_one e z unpinned in_slot {m} o w =
        record {
          slots = set q.slots s empty;
          next = record { stage = 15; wants = t.wants; grants = t.grants };
          rule = rw (ap (λ (x : Observable). x.answer) o) (evicts {j = 15} (rw (client_related.stage ∙ e) tt) s holding (unheld f g.0 z unpinned g.1));
          related =
              one_slot m _ (keeping m 15 o) (related_working client_related (works_on m 15 o busy) (rw e refl))
              (evict_view p c m r f evicted w refl (pins_in p f live) z s in_slot.1);
        }
      where
        f : ℕ
        f = k.victim

        s : ℕ
        s = in_slot.0

        live : pins p f ≢ evicted
        live n = omega arith

        g : (g : ℕ) × (mapped p f ≡ suc g)
        g = some_suc (mapped p f) (unpinned_mapped p r f z unpinned in_slot)

        holding : seq_slot q s ≡ stores g.0 f
        holding = related.slots s ∙ (ap (view_frame p) in_slot.1 ∙ view_mapped p f live g.1)
