-- Every number stays in its range: what a move writes is in range (`Effects`), the next record has the numbers of the last one, or those of a client
-- at rest, or new ones that its stage reduced. Pins are at most T because no client claims a frame twice (`one_more_pin`). Assumes nothing.
use mathlib.Core.Path.{◌≡◌, refl, sym, ap, ◌∙◌}
use mathlib.Core.Logic.{◌≢◌, inl, inr}
use Prim.Native.Nat.{ℕ, ◌+◌, ◌≤◌, ◌<◌}
use native.Mathlib.Omega.{arith}
use native.Mathlib.Decide.{ℕ_discrete, dec_lt}
use lib.Dec.{T, eqb, leb}
use mathlib.Core.Bool.{not}
use Rattle.pool.specs.Limits.{max_held}
use Rattle.pool.specs.State.{none, pinned, number_of_clients, total, slot, pins, count, entry_frame, client, grant_frame}
use Rattle.pool.specs.Apply.{apply}
use Rattle.pool.specs.declared.Pool.{Pool}
use Rattle.pool.specs.declared.Client.{Client}
use Rattle.pool.specs.declared.Move.{Move}
use Rattle.invariant.proofs.Reached.{Reached, Ranges}
use Rattle.invariant.proofs.After.{all_clients, pins_kept, pins_here, pins_else, pins_in, count_kept, count_here, count_else, count_past}
use Rattle.invariant.proofs.After.{entry_frame_kept}
use Rattle.invariant.proofs.Searches.{grant_in}
use Rattle.invariant.proofs.Table.{put_frame, else_frame}
use Rattle.invariant.proofs.StageTests.{differ, at_most}
use Rattle.invariant.proofs.Edges.{Edge, moves_on, found1, found18, forgets2, forgets22, pins2, pins19, gets3, gets21, takes, fills, replaces, refuses}
use Rattle.invariant.proofs.Edges.{evicts14, removes, admits, revives, evicts20, evicts23, begins, releases}
use Rattle.invariant.proofs.Effects.{CountOk, counts_stay, counts_put, OwnOk, own_forgotten, own_stays, own_taken, PinChange, adds, lowers, evicts_victim}
use Rattle.invariant.proofs.Effects.{own_evicted, takes_one, PinsOk, pins_stay, pins_put, FoundOk, found_stays, found_forgotten, found_looked_up, Opened}
use Rattle.invariant.proofs.Effects.{of_found, of_own, EntryOk, entries_stay, maps, unmaps, Effect, scene}
use Rattle.invariant.proofs.Next.{SlotNow, slot_now, all_grants}

-- ---- what a move has to show of the next record

record Numbers (p : Pool) (n : Client) : Type 0 where
  stage_ok : n.stage ≤ 23
  place_ok : n.place < p.size
  busy_ok : n.busy < p.size
  seen_ok : n.seen ≤ p.size
  held_ok : n.held ≤ max_held
  working_held : n.stage ≢ 0 → n.held < max_held
  victim_ok : n.victim ≢ none → n.victim < total p

-- ---- each kind of move shows it

module _ (p : Pool) (c : ℕ) (r : Reached p) where
  abbrev k : Client
  k = client p c

  -- a client at work goes on with its numbers
  same_numbers : (n : Client) (i : ℕ) → k.stage ≡ i → T (not (eqb i 0)) → T (leb n.stage 23) → n.place ≡ k.place → n.busy ≡ k.busy
      → n.seen ≡ k.seen → n.held ≡ k.held → (n.victim ≢ none → n.victim ≡ k.victim) → Numbers p n
  same_numbers n i e t s a b d f v =
      record {
        stage_ok = at_most n.stage 23 s;
        place_ok = rw a (r.ranges.place_ok c);
        busy_ok = rw b (r.ranges.busy_ok c);
        seen_ok = rw d (r.ranges.seen_ok c);
        held_ok = rw f (r.ranges.held_ok c);
        working_held = λ _. rw f (r.ranges.working_held c (λ w. differ i 0 t (sym e ∙ w)));
        victim_ok = λ y. rw (v y) (r.ranges.victim_ok c (λ w. y (v y ∙ w)));
      }

  -- it rests
  at_rest : (n : Client) → n.stage ≡ 0 → n.place ≡ 0 → n.busy ≡ 0 → n.seen ≡ 0 → n.held ≤ max_held → n.victim ≡ none → Numbers p n
  at_rest n s a b d h v =
      let l = r.shape.size_low in
      record {
        stage_ok = omega arith;
        place_ok = omega arith;
        busy_ok = omega arith;
        seen_ok = omega arith;
        held_ok = h;
        working_held = λ w. absurd (w s);
        victim_ok = λ w. absurd (w v);
      }

  -- a working client is granted a frame
  more : (i : ℕ) → k.stage ≡ i → T (not (eqb i 0)) → k.held + 1 ≤ max_held
  more i e t = omega (arith, r.ranges.working_held c (λ w. differ i 0 t (sym e ∙ w)))

  numbers : {m : Move} → Edge p c m → Numbers p m.next
  numbers (moves_on n j w h) =
      record {
        stage_ok = h.stages.stage_ok;
        place_ok = h.place_ok;
        busy_ok = h.busy_ok;
        seen_ok = h.seen_ok;
        held_ok = rw h.same.held (r.ranges.held_ok c);
        working_held = λ _. rw h.same.held (r.ranges.working_held c h.stages.working);
        victim_ok = h.victim_ok;
      }
  numbers (found1 e _) = same_numbers _ 1 e tt tt refl refl refl refl (λ _. refl)
  numbers (found18 e _) = same_numbers _ 18 e tt tt refl refl refl refl (λ _. refl)
  numbers (forgets2 e _) = same_numbers _ 2 e tt tt refl refl refl refl (λ _. refl)
  numbers (forgets22 e _) = same_numbers _ 22 e tt tt refl refl refl refl (λ _. refl)
  numbers (pins2 e _) = same_numbers _ 2 e tt tt refl refl refl refl (λ _. refl)
  numbers (pins19 e _) = same_numbers _ 19 e tt tt refl refl refl refl (λ _. refl)
  numbers (gets3 e) = at_rest _ refl refl refl refl (more 3 e tt) refl
  numbers (gets21 e) = at_rest _ refl refl refl refl (more 21 e tt) refl
  numbers (takes e _) = same_numbers _ 4 e tt tt refl refl refl refl (λ _. refl)
  numbers (fills e _) = same_numbers _ 8 e tt tt refl refl refl refl (λ _. refl)
  numbers (replaces e _) = same_numbers _ 15 e tt tt refl refl refl refl (λ _. refl)
  numbers (refuses _ _) = at_rest _ refl refl refl refl (r.ranges.held_ok c) refl
  numbers (evicts14 e _) = same_numbers _ 14 e tt tt refl refl refl refl (λ _. refl)
  numbers (removes e _) = same_numbers _ 17 e tt tt refl refl refl refl (λ w. absurd (w refl))
  numbers (admits e _ _) = at_rest _ refl refl refl refl (more 18 e tt) refl
  numbers (revives e _) = at_rest _ refl refl refl refl (more 22 e tt) refl
  numbers (evicts20 e) = same_numbers _ 20 e tt tt refl refl refl refl (λ _. refl)
  numbers (evicts23 e) = same_numbers _ 23 e tt tt refl refl refl refl (λ _. refl)
  numbers (begins g e h _) =
      record {
        stage_ok = omega arith;
        place_ok = r.ranges.place_ok c;
        busy_ok = r.ranges.busy_ok c;
        seen_ok = r.ranges.seen_ok c;
        held_ok = r.ranges.held_ok c;
        working_held = λ _. omega arith;
        victim_ok = r.ranges.victim_ok c;
      }
  numbers (releases g e z) =
      record {
        stage_ok = r.ranges.stage_ok c;
        place_ok = r.ranges.place_ok c;
        busy_ok = r.ranges.busy_ok c;
        seen_ok = r.ranges.seen_ok c;
        held_ok = omega (arith, r.ranges.held_ok c);
        working_held = λ w. absurd (w e);
        victim_ok = r.ranges.victim_ok c;
      }

-- ---- the layer is kept

module _ {p : Pool} {c : ℕ} {m : Move} (e : Edge p c m) (x : Effect p c m) where
  open scene x use {r, here, q}

  all : (P : Client → Type 0) → ((d : ℕ) → P (client p d)) → P m.next → (d : ℕ) → P (client q d)
  all P old new = all_clients p c m r.shape (λ _ n. P n) here (λ d _. old d) new

  pins_range : (f : ℕ) → pins q f ≤ pinned (number_of_clients p)
  pins_range f = go x.pins
    where
      go : PinsOk p c m → pins q f ≤ pinned (number_of_clients p)
      go (pins_stay w) = rw (pins_kept p c m w f) (r.ranges.pins_ok f)
      go (pins_put g y w h ch) = by (ℕ_discrete f g)
        where
          least : PinChange p c m g y → y ≤ pinned (number_of_clients p)
          least (adds _ _ l) = l
          least (lowers _ v) = omega (arith, r.ranges.pins_ok g)
          least (evicts_victim _ _ v _ _ _ _) = omega arith
          least (own_evicted _ v) = omega arith
          least (takes_one _ v) = omega arith

          by : Dec (f ≡ g) → pins q f ≤ pinned (number_of_clients p)
          by (yes v) = rw (ap (pins q) v ∙ pins_here p c m r.shape g y w h) (least ch)
          by (no v) = rw (pins_else p c m g y w f v) (r.ranges.pins_ok f)

  count_range : (f : ℕ) → count q f ≤ p.cap
  unfolding apply
  count_range f = go x.write_ok.count_ok
    where
      go : CountOk p m.write → count q f ≤ p.cap
      go (counts_stay w) = rw (count_kept p c m w f) (r.ranges.count_ok f)
      go (counts_put g y w l) = by (ℕ_discrete f g) (dec_lt g (total p))
        where
          by : Dec (f ≡ g) → Dec (g < total p) → count q f ≤ p.cap
          by (yes v) (yes h) = rw (ap (count q) v ∙ count_here p c m r.shape g y w h) l
          by (yes v) (no h) = rw (ap (count q) v ∙ count_past q g (omega arith)) (omega arith)
          by (no v) _ = rw (count_else p c m g y w f v) (r.ranges.count_ok f)

  slot_range : (i : ℕ) → slot q i ≢ none → slot q i < total p
  slot_range i z = go (slot_now x i)
    where
      go : SlotNow x i → slot q i < total p
      go (inl w) = rw w (r.ranges.slot_ok i (λ n. z (w ∙ n)))
      go (inr w) = rw w.0 (r.ranges.own_ok c w.3)

  entry_range : (i : ℕ) → entry_frame q i ≢ none → entry_frame q i < total p
  entry_range i z = go x.entries
    where
      go : EntryOk p c m → entry_frame q i < total p
      go (entries_stay _ w) = let s = entry_frame_kept p c m w i in rw s (r.ranges.entry_ok i (λ n. z (s ∙ n)))
      go (maps j w h o _ _ _ _) = by (ℕ_discrete i j)
        where
          by : Dec (i ≡ j) → entry_frame q i < total p
          by (yes v) = rw (ap (entry_frame q) v ∙ put_frame p c m r.shape j _ _ w h) (r.ranges.own_ok c o)
          by (no v) = let s = else_frame p c m r.shape j _ _ w h i v in rw s (r.ranges.entry_ok i (λ n. z (s ∙ n)))
      go (unmaps j _ w h _ _) = by (ℕ_discrete i j)
        where
          by : Dec (i ≡ j) → entry_frame q i < total p
          by (yes v) = absurd (z (ap (entry_frame q) v ∙ put_frame p c m r.shape j _ _ w h))
          by (no v) = let s = else_frame p c m r.shape j _ _ w h i v in rw s (r.ranges.entry_ok i (λ n. z (s ∙ n)))

  own_range : OwnOk p c m → m.next.own ≢ none → m.next.own < total p
  own_range (own_forgotten w) z = absurd (z w)
  own_range (own_stays w _) z = rw w (r.ranges.own_ok c (λ n. z (w ∙ n)))
  own_range (own_taken _ h _ _) z = h

  found_range : FoundOk p c m → m.next.found ≢ none → m.next.found < total p
  found_range (found_stays w) z = rw w (r.ranges.found_ok c (λ n. z (w ∙ n)))
  found_range (found_forgotten w) z = absurd (z w)
  found_range (found_looked_up h _) z = h

  grant_range : (d i : ℕ) → grant_frame q d i ≢ none → grant_frame q d i < total p
  grant_range d i z =
      all_grants x (λ _ f. f ≢ none → f < total p) (λ d i _. r.ranges.grant_ok d i) (λ g f w. new (x.opened g f w)) d i (grant_in q d i z) z
    where
      new : {g f : ℕ} → Opened p c m g f → f ≢ none → f < total p
      new {g} {f} (of_found _ _ _ l) _ = pins_in p f (λ n. let y : ⊥ = omega arith in y)
      new (of_own _ w _ _ _ _) z = rw w (r.ranges.own_ok c (λ n. z (w ∙ n)))

  pub ranges_next : Ranges q
  unfolding apply
  ranges_next =
      let n = numbers p c r e in
      let w = x.write_ok in
      record {
        free_ok = w.free_ok;
        last_ok = w.last_ok;
        stage_ok = all (λ k. k.stage ≤ 23) r.ranges.stage_ok n.stage_ok;
        place_ok = all (λ k. k.place < p.size) r.ranges.place_ok n.place_ok;
        busy_ok = all (λ k. k.busy < p.size) r.ranges.busy_ok n.busy_ok;
        seen_ok = all (λ k. k.seen ≤ p.size) r.ranges.seen_ok n.seen_ok;
        held_ok = all (λ k. k.held ≤ max_held) r.ranges.held_ok n.held_ok;
        working_held = all (λ k. k.stage ≢ 0 → k.held < max_held) r.ranges.working_held n.working_held;
        pins_ok = pins_range;
        count_ok = count_range;
        slot_ok = slot_range;
        entry_ok = entry_range;
        own_ok = all (λ k. k.own ≢ none → k.own < total p) r.ranges.own_ok (own_range x.own);
        found_ok = all (λ k. k.found ≢ none → k.found < total p) r.ranges.found_ok (found_range x.found);
        victim_ok = all (λ k. k.victim ≢ none → k.victim < total p) r.ranges.victim_ok n.victim_ok;
        grant_ok = grant_range;
      }
