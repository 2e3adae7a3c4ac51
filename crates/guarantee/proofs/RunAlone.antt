-- A client that runs alone from its begin. `RunsAlone` says what holds at each stage of such a run. A stage that only a granted request reaches carries
-- the proof that the condition for refusal 15 (`MustRefuse`) does not hold (`MustGrant`); the others carry that slots, look-up and pins are still those of
-- the begin (`SameAsBegin`). `result`: one step leads on in the run, or is granted where `MustRefuse` does not hold, or is refused by 15 where it does.
-- Assumes nothing.
use mathlib.Core.Path.{◌≡◌, refl, sym, ap, ◌∙◌}
use mathlib.Core.Logic.{◌≢◌, ◌⊎◌, inl, inr}
use mathlib.Core.Bool.{false, not, true≢false}
use mathlib.Core.List.{[]}
use Prim.Native.Nat.{ℕ, suc, ◌+◌, ◌-◌, ◌≤◌, ◌<◌}
use native.Mathlib.Decide.{ℕ_discrete}
use native.Mathlib.Nat.{mod-lt}
use native.Mathlib.Omega.{arith}
use lib.Dec.{T, eqb}
use borrow.Author.Tests.{eq-eqb, ne_eqb}
use Rattle.pool.specs.State.{none, evicted, pinned, number_of_clients, slot, page, pins, count, client}
use Rattle.pool.specs.Table.{lookup, resident}
use Rattle.pool.specs.Frames.{free_frame}
use Rattle.pool.specs.Apply.{slots_after, pins_after, free_after, entry_pages_after, entry_frames_after, apply}
use Rattle.pool.specs.Stages.{taking}
use Rattle.pool.specs.Calls.{call_of}
use Rattle.pool.specs.declared.Pool.{Pool}
use Rattle.pool.specs.declared.Client.{Client}
use Rattle.pool.specs.declared.Move.{Move}
use Rattle.pool.specs.declared.Outcome.{Outcome}
use Rattle.pool.specs.declared.Call.TheVariants.{Step}
use Rattle.pool.specs.declared.Answer.TheVariants.{Working, Granted, Refused}
use Rattle.invariant.proofs.Reached.{one, filling, Reached}
use Rattle.invariant.proofs.After.{slot_kept, pins_else}
use Rattle.invariant.proofs.Sums.{sum_zero, sum_has}
use Rattle.invariant.proofs.Writes.{counters_only, keeps_table, untouched, lookup_kept}
use Rattle.invariant.proofs.Searches.{none_evicted, free_found, Unreferenced, unreferenced_means}
use Rattle.invariant.proofs.NeverFails.{finds_some}
use Rattle.invariant.proofs.Facts.{some_empty}
use Rattle.invariant.proofs.StageTests.{T_false}
use Rattle.invariant.proofs.Steps.{around_ok}
use Rattle.guarantee.specs.Claims.{AllHeld}
use Rattle.guarantee.proofs.AloneSteps.{AloneAt, StepIs, alone_next, move1, move1_found, move2, move3, move4, move5, move5_none, move6, move7}
use Rattle.guarantee.proofs.AloneSteps.{move8, move8_next, move9, move10, move11, move12_evicted, move12_unpinned, move12_busy, move12_refused}
use Rattle.guarantee.proofs.AloneSteps.{move13_zero, move13_more, move14, move15, move16, move17_removes, move17_keeps, move18}
use Rattle.guarantee.proofs.SinceBegin.{SameAsBegin, counters_slot, counters_pins, same_as_begin_next, absent_removed}
use Rattle.guarantee.proofs.Limits.{next_is, absent_next, found_not_evicted}
use Rattle.guarantee.proofs.Frames.{held_pinned}
use Rattle.guarantee.proofs.Sweep.{pins_held, Before, before_none, before_next, before_all}

-- the sweep is to visit slot i, and each of the r slots before it names a pinned frame
pub record Sweep (p : Pool) (i r : ℕ) : Type 0 where
  pub none_free : p.free ≡ 0
  pub inside : i < p.size
  pub run : (j : ℕ) → j < p.size → Before i r p.size j → pinned 1 ≤ pins p (slot p j)

module _ (p₀ : Pool) (b g : ℕ) (reached : Reached p₀) (rest : (c : ℕ) → (client p₀ c).stage ≡ 0) where
  -- the condition of the claim
  abbrev pub MustRefuse : Type 0
  MustRefuse = (resident p₀ g ≡ false) × AllHeld p₀

  abbrev MustGrant : Type 0
  MustGrant = MustRefuse → ⊥

  -- at stage i, the page not found; before and after it is decided that the request will be granted
  pub record Undecided (p : Pool) (i : ℕ) : Type 0 where
    pub alone_at : AloneAt p b g i
    pub since_begin : SameAsBegin p₀ p g
    pub absent : lookup p g ≡ none

  pub record Decided (p : Pool) (i : ℕ) : Type 0 where
    pub alone_at : AloneAt p b g i
    pub absent : lookup p g ≡ none
    pub must_grant : MustGrant

  -- its sweep so far; its victim stands in the slot it visits
  abbrev Swept : Pool → Type 0
  Swept p = Sweep p (client p b).place (client p b).busy

  abbrev VictimAtPlace : Pool → Type 0
  VictimAtPlace p = slot p (client p b).place ≡ (client p b).victim

  pub data RunsAlone (p : Pool) : Type 0 where
    at1 : AloneAt p b g 1 → SameAsBegin p₀ p g → ((f : ℕ) → pins p f ≡ pins p₀ f) → RunsAlone p
    at2 : AloneAt p b g 2 → pins p (client p b).found ≢ evicted → MustGrant → RunsAlone p
    at3 : AloneAt p b g 3 → MustGrant → RunsAlone p
    at4 : Undecided p 4 → RunsAlone p
    at5 : Undecided p 5 → RunsAlone p
    at6 : Decided p 6 → p.free ≡ (client p b).seen → RunsAlone p
    at7 : Decided p 7 → RunsAlone p
    at8 : Decided p 8 → RunsAlone p
    at9 : Decided p 9 → RunsAlone p
    at10 : Undecided p 10 → p.free ≡ 0 → RunsAlone p
    at11 : Undecided p 11 → Swept p → RunsAlone p
    at12 : Undecided p 12 → Swept p → VictimAtPlace p → RunsAlone p
    at13 : Undecided p 13 → Swept p → VictimAtPlace p → pins p (client p b).victim ≡ pinned 0 → MustGrant → RunsAlone p
    at14 : Decided p 14 → VictimAtPlace p → pins p (client p b).victim ≡ pinned 0 → RunsAlone p
    at15 : Decided p 15 → VictimAtPlace p → RunsAlone p
    at16 : Decided p 16 → RunsAlone p
    at17 : Decided p 17 → RunsAlone p
    at18 : Decided p 18 → RunsAlone p

  pub data StepResult (o : Outcome) : Type 0 where
    goes_on : (j : ℕ) → o.answer ≡ Working j → RunsAlone o.pool → StepResult o
    granted : (f : ℕ) → o.answer ≡ Granted f → (client o.pool b).stage ≡ 0 → MustGrant → StepResult o
    refused : o.answer ≡ Refused 15 → (client o.pool b).stage ≡ 0 → MustRefuse → StepResult o

  module _ (p : Pool) where
    abbrev k : Client
    k = client p b

    -- the next pool is undecided, decided
    still_undecided : {i : ℕ} {m : Move} (j : ℕ) → Undecided p i → StepIs p b m → m.next.stage ≡ j → m.next.page ≡ k.page → T (counters_only m.write)
        → Undecided (call_of p (Step b)).pool j
    still_undecided {m = m} j e w s q t =
        record {
          alone_at = alone_next w j e.alone_at s q;
          since_begin = next_is e.alone_at w (λ x _. SameAsBegin p₀ x g) (same_as_begin_next p b m e.alone_at.reached t e.since_begin);
          absent = absent_next e.alone_at w (untouched 0 [] m.write t).table e.absent;
        }

    decide : {i : ℕ} {m : Move} (j : ℕ) → AloneAt p b g i → lookup p g ≡ none → MustGrant → StepIs p b m → m.next.stage ≡ j → m.next.page ≡ k.page
        → T (keeps_table m.write) → Decided (call_of p (Step b)).pool j
    decide j o a n w s q t = record { alone_at = alone_next w j o s q; absent = absent_next o w t a; must_grant = n }

    still_decided : {i : ℕ} {m : Move} (j : ℕ) → Decided p i → StepIs p b m → m.next.stage ≡ j → m.next.page ≡ k.page → T (keeps_table m.write)
        → Decided (call_of p (Step b)).pool j
    still_decided j e = decide j e.alone_at e.absent e.must_grant

    -- ---- the stages of an early hit, or up to the sweep

    result1 : AloneAt p b g 1 → SameAsBegin p₀ p g → ((f : ℕ) → pins p f ≡ pins p₀ f) → StepResult (call_of p (Step b))
    unfolding resident
    result1 o h same =
        elim (ℕ_discrete (lookup p g) none) [
          | yes e ↦
              let w = move1 p b g o e in
              goes_on 4 w.answer_is (at4 (still_undecided 4 (record { alone_at = o; since_begin = h; absent = e }) w refl refl tt))
          | no z ↦
              let w = move1_found p b g o z in
              let live = found_not_evicted p₀ reached rest g (λ e. z (h.lookup ∙ e)) in
              let found : pins p (lookup p k.page) ≡ pins p₀ (lookup p₀ g) =
              ap (λ (x : ℕ). pins p (lookup p x)) o.page ∙ (same (lookup p g) ∙ ap (pins p₀) h.lookup) in
              goes_on 2 w.answer_is (at2 (alone_next w 2 o refl refl)
              (next_is o w (λ q x. pins q x.found ≢ evicted) (λ e. live (sym found ∙ (sym (counters_pins p b _ o.reached tt _) ∙ e))))
              (λ f. true≢false (sym (ap not (ne_eqb _ evicted live)) ∙ f.0)))
        ]

    result2 : AloneAt p b g 2 → pins p k.found ≢ evicted → MustGrant → StepResult (call_of p (Step b))
    result2 o z n = let w = move2 p b g o z in goes_on 3 w.answer_is (at3 (alone_next w 3 o refl refl) n)

    result3 : AloneAt p b g 3 → MustGrant → StepResult (call_of p (Step b))
    result3 o n = let w = move3 p b g o in granted k.found w.answer_is (next_is o w (λ _ x. x.stage ≡ 0) refl) n

    -- 4 takes a frame that stands in no slot
    result4 : Undecided p 4 → StepResult (call_of p (Step b))
    unfolding apply slots_after pins_after
    result4 e =
        let o = e.alone_at in
        let w = move4 p b g o in
        let m : Move = taking k p.cap (free_frame p) in
        let z : free_frame p ≢ none = finds_some p o.reached b o.here o.stage in
        let fresh : Unreferenced p (free_frame p) = unreferenced_means p (free_frame p) z (free_found p o.reached.shape z).1 in
        goes_on 5 w.answer_is (at5 (record {
          alone_at = alone_next w 5 o refl refl;
          since_begin = next_is o w (λ q _. SameAsBegin p₀ q g) (record {
            slots = λ i. slot_kept p b m refl i ∙ e.since_begin.slots i;
            lookup = lookup_kept p b m tt g ∙ e.since_begin.lookup;
            size = e.since_begin.size;
            pins = λ i.
                pins_else p b m (free_frame p) (pinned 1) refl (slot p₀ i) (λ q. fresh.no_slot i (e.since_begin.slots i ∙ q)) ∙ e.since_begin.pins i;
          });
          absent = absent_next o w tt e.absent;
        }))

    result5 : Undecided p 5 → StepResult (call_of p (Step b))
    unfolding apply free_after
    result5 e =
        let o = e.alone_at in
        elim (ℕ_discrete p.free 0) [
          | yes f ↦
              let w = move5_none p b g o f in
              goes_on 10 w.answer_is (at10 (still_undecided 10 e w refl refl tt) (next_is o w (λ q _. q.free ≡ 0) f))
          | no f ↦
              let w = move5 p b g o f in
              let i = some_empty p (λ q. f (omega (arith, o.reached.evictions.empties))) in
              goes_on 6 w.answer_is (at6
              (decide 6 o e.absent
              (λ h. (h.1 i.0 (omega (arith, i.1, e.since_begin.size))).0 (sym (e.since_begin.slots i.0) ∙ i.2)) w refl refl tt)
              (next_is o w (λ q x. q.free ≡ x.seen) refl))
        ]

    -- ---- the stages after which the request is granted

    result6 : Decided p 6 → p.free ≡ k.seen → StepResult (call_of p (Step b))
    result6 e f = let w = move6 p b g e.alone_at f in goes_on 7 w.answer_is (at7 (still_decided 7 e w refl refl tt))

    result7 : Decided p 7 → StepResult (call_of p (Step b))
    result7 e = let w = move7 p b g e.alone_at in goes_on 8 w.answer_is (at8 (still_decided 8 e w refl refl tt))

    result8 : Decided p 8 → StepResult (call_of p (Step b))
    result8 e =
        elim (ℕ_discrete (slot p k.place) none) [
          | yes q ↦ (let w = move8 p b g e.alone_at q in goes_on 9 w.answer_is (at9 (still_decided 9 e w refl refl tt)))
          | no q ↦ (let w = move8_next p b g e.alone_at q in goes_on 8 w.answer_is (at8 (still_decided 8 e w refl refl tt)))
        ]

    result9 : Decided p 9 → StepResult (call_of p (Step b))
    result9 e = let w = move9 p b g e.alone_at in goes_on 18 w.answer_is (at18 (still_decided 18 e w refl refl tt))

    result14 : Decided p 14 → VictimAtPlace p → pins p k.victim ≡ pinned 0 → StepResult (call_of p (Step b))
    unfolding slots_after
    result14 e v h =
        let w = move14 p b g e.alone_at h in
        goes_on 15 w.answer_is (at15 (still_decided 15 e w refl refl tt)
        (next_is e.alone_at w (λ q x. slot q x.place ≡ x.victim) (slot_kept p b _ refl _ ∙ v)))

    result15 : Decided p 15 → VictimAtPlace p → StepResult (call_of p (Step b))
    result15 e v = let w = move15 p b g e.alone_at v in goes_on 16 w.answer_is (at16 (still_decided 16 e w refl refl tt))

    result16 : Decided p 16 → StepResult (call_of p (Step b))
    result16 e = let w = move16 p b g e.alone_at in goes_on 17 w.answer_is (at17 (still_decided 17 e w refl refl tt))

    result18 : Decided p 18 → StepResult (call_of p (Step b))
    result18 e =
        let w = move18 p b g e.alone_at e.absent in
        granted k.own w.answer_is (next_is e.alone_at w (λ _ x. x.stage ≡ 0) refl) e.must_grant

    -- 17 may empty an entry of the table
    result17 : Decided p 17 → StepResult (call_of p (Step b))
    unfolding entry_pages_after entry_frames_after
    result17 e =
        let o = e.alone_at in
        elim (ℕ_discrete (lookup p (page p k.victim)) k.victim) [
          | no z ↦ (let w = move17_keeps p b g o z in goes_on 18 w.answer_is (at18 (still_decided 18 e w refl refl tt)))
          | yes q ↦
              let w = move17_removes p b g o q in
              goes_on 18 w.answer_is (at18 (record {
                alone_at = alone_next w 18 o refl refl;
                absent = next_is o w (λ x _. lookup x g ≡ none) (absent_removed p b _ _ _ refl o.reached g e.absent);
                must_grant = e.must_grant;
              }))
        ]

    -- ---- the sweep

    pins_same : SameAsBegin p₀ p g → (i : ℕ) → pins p (slot p i) ≡ pins p₀ (slot p₀ i)
    pins_same h i = ap (pins p) (h.slots i) ∙ h.pins i

    -- a slot whose frame has no pins is not held
    not_held : SameAsBegin p₀ p g → (i : ℕ) → i < p.size → pins p (slot p i) < pinned 1 → MustGrant
    not_held h i l e f = omega (arith, held_pinned p₀ reached (slot p₀ i) (f.1 i (omega (arith, h.size))).1, pins_same h i)

    -- no slot is empty where none is free and nobody fills one
    no_empty : {i : ℕ} → AloneAt p b g i → T (not (filling i)) → p.free ≡ 0 → (j : ℕ) → j < p.size → slot p j ≢ none
    no_empty {i} o t f j l e =
        omega (
          arith,
          o.reached.evictions.empties,
          sum_has (λ j. one (eqb (slot p j) none)) p.size j l,
          ap (λ (x : ℕ). one (eqb x none)) e,
          sum_zero (λ c. one (filling (client p c).stage)) (number_of_clients p) (λ c _. idle c (ℕ_discrete c b)),
        )
      where
        idle : (c : ℕ) → Dec (c ≡ b) → one (filling (client p c).stage) ≡ 0
        idle c (yes q) = rw (q, o.stage, T_false (filling i) t) refl
        idle c (no q) = rw (o.others_rest c q) refl

    -- the sweep goes on, at m's place and with its busy run
    sweeps : {i : ℕ} {m : Move} → AloneAt p b g i → StepIs p b m → T (counters_only m.write) → free_after p.free m.write ≡ 0 → m.next.place < p.size
        → ((j : ℕ) → j < p.size → Before m.next.place m.next.busy p.size j → pinned 1 ≤ pins p (slot p j))
        → Swept (call_of p (Step b)).pool
    unfolding apply
    sweeps {m = m} o w t f h run =
        next_is o w (λ q x. Sweep q x.place x.busy) (record {
          none_free = f;
          inside = h;
          run = λ j l x. rw (counters_slot p b m o.reached t j, counters_pins p b m o.reached t (slot p j)) (run j l x);
        })

    result10 : Undecided p 10 → p.free ≡ 0 → StepResult (call_of p (Step b))
    unfolding free_after
    result10 e f =
        let w = move10 p b g e.alone_at in
        goes_on 11 w.answer_is (at11 (still_undecided 11 e w refl refl tt)
        (sweeps e.alone_at w tt f (mod-lt p.hand e.alone_at.reached.shape.size_low) (λ j l x. absurd (before_none _ p.size j l x))))

    result11 : Undecided p 11 → Swept p → StepResult (call_of p (Step b))
    unfolding free_after
    result11 e s =
        let w = move11 p b g e.alone_at (no_empty e.alone_at tt s.none_free k.place s.inside) in
        goes_on 12 w.answer_is (at12 (still_undecided 12 e w refl refl tt) (sweeps e.alone_at w tt s.none_free s.inside s.run)
        (next_is e.alone_at w (λ q x. slot q x.place ≡ x.victim) (counters_slot p b _ e.alone_at.reached tt _)))

    -- the busy run grows by the slot visited
    grown : Swept p → pinned 1 ≤ pins p (slot p k.place) → (j : ℕ) → j < p.size → (j ≡ k.place) ⊎ Before k.place k.busy p.size j
        → pinned 1 ≤ pins p (slot p j)
    grown s h j l (inl e) = rw e h
    grown s h j l (inr x) = s.run j l x

    -- after S busy visits every slot is held
    all_held : Undecided p 12 → Swept p → p.size ≤ k.busy + 1 → pinned 1 ≤ pins p (slot p k.place) → AllHeld p₀
    all_held e s n h j l =
        let r : j < p.size = omega (arith, e.since_begin.size) in
        let z : slot p₀ j ≢ none = λ q. no_empty e.alone_at tt s.none_free j r (e.since_begin.slots j ∙ q) in (
          z,
          pins_held p₀ reached rest j z
              (omega (arith, pins_same e.since_begin j, grown s h j r (before_all k.place k.busy p.size j s.inside r n))),
        )

    absent₀ : Undecided p 12 → resident p₀ g ≡ false
    unfolding resident
    absent₀ e =
        ap not (eq-eqb _ evicted (ap (pins p₀) (sym e.since_begin.lookup ∙ e.absent) ∙ none_evicted p₀ reached.shape))

    result12 : Undecided p 12 → Swept p → VictimAtPlace p → StepResult (call_of p (Step b))
    unfolding free_after
    result12 e s v = go (ℕ_discrete (pins p k.victim) evicted) (ℕ_discrete (pins p k.victim) (pinned 0)) (ℕ_discrete (k.busy + 1) p.size)
      where
        o : AloneAt p b g 12
        o = e.alone_at

        there : pins p (slot p k.place) ≡ pins p k.victim
        there = ap (pins p) v

        go : Dec (pins p k.victim ≡ evicted) → Dec (pins p k.victim ≡ pinned 0) → Dec (k.busy + 1 ≡ p.size) → StepResult (call_of p (Step b))
        go (yes d) _ _ =
            let w = move12_evicted p b g o d in
            goes_on 15 w.answer_is (at15 (decide 15 o e.absent (not_held e.since_begin k.place s.inside (omega (arith, there))) w refl refl tt)
            (next_is o w (λ q x. slot q x.place ≡ x.victim) (counters_slot p b _ o.reached tt _ ∙ v)))
        go (no _) (yes d) _ =
            let w = move12_unpinned p b g o d in
            goes_on 13 w.answer_is (at13 (still_undecided 13 e w refl refl tt) (sweeps o w tt s.none_free s.inside s.run)
            (next_is o w (λ q x. slot q x.place ≡ x.victim) (counters_slot p b _ o.reached tt _ ∙ v))
            (next_is o w (λ q x. pins q x.victim ≡ pinned 0) (counters_pins p b _ o.reached tt _ ∙ d))
            (not_held e.since_begin k.place s.inside (omega (arith, there))))
        go (no x) (no y) (no z) =
            let h : pinned 1 ≤ pins p k.victim = omega arith in
            let w = move12_busy p b g o h z in
            goes_on 11 w.answer_is (at11 (still_undecided 11 e w refl refl tt)
            (sweeps o w tt s.none_free (around_ok p.size k.place o.reached.shape.size_low)
            (λ j l x. grown s (omega (arith, there)) j l (before_next k.place k.busy p.size j s.inside l x))))
        go (no x) (no y) (yes z) =
            let h : pinned 1 ≤ pins p k.victim = omega arith in
            let w = move12_refused p b g o h z in
            refused w.answer_is (next_is o w (λ _ x. x.stage ≡ 0) refl) (absent₀ e, all_held e s (omega arith) (omega (arith, there)))

    result13 : Undecided p 13 → Swept p → VictimAtPlace p → pins p k.victim ≡ pinned 0 → MustGrant → StepResult (call_of p (Step b))
    unfolding free_after
    result13 e s v h n =
        let o = e.alone_at in
        elim (ℕ_discrete (count p k.victim - 1) 0) [
          | yes c ↦
              let w = move13_zero p b g o c in
              goes_on 14 w.answer_is (at14 (decide 14 o e.absent n w refl refl tt)
              (next_is o w (λ q x. slot q x.place ≡ x.victim) (counters_slot p b _ o.reached tt _ ∙ v))
              (next_is o w (λ q x. pins q x.victim ≡ pinned 0) (counters_pins p b _ o.reached tt _ ∙ h)))
          | no c ↦
              let w = move13_more p b g o c in
              goes_on 11 w.answer_is (at11 (still_undecided 11 e w refl refl tt)
              (sweeps o w tt s.none_free (around_ok p.size k.place o.reached.shape.size_low) (λ j l x. absurd (before_none _ p.size j l x))))
        ]

    pub result : RunsAlone p → StepResult (call_of p (Step b))
    result (at1 o h q) = result1 o h q
    result (at2 o z n) = result2 o z n
    result (at3 o n) = result3 o n
    result (at4 e) = result4 e
    result (at5 e) = result5 e
    result (at6 e f) = result6 e f
    result (at7 e) = result7 e
    result (at8 e) = result8 e
    result (at9 e) = result9 e
    result (at10 e f) = result10 e f
    result (at11 e s) = result11 e s
    result (at12 e s v) = result12 e s v
    result (at13 e s v h n) = result13 e s v h n
    result (at14 e v h) = result14 e v h
    result (at15 e v) = result15 e v
    result (at16 e) = result16 e
    result (at17 e) = result17 e
    result (at18 e) = result18 e

  -- its client works
  abbrev pub Works : Pool → Type 0
  Works p = (i : ℕ) × AloneAt p b g (suc i)

  pub working : {p : Pool} → RunsAlone p → Works p
  working (at1 o h q) = (0, o)
  working (at2 o z n) = (1, o)
  working (at3 o n) = (2, o)
  working (at4 e) = (3, e.alone_at)
  working (at5 e) = (4, e.alone_at)
  working (at6 e f) = (5, e.alone_at)
  working (at7 e) = (6, e.alone_at)
  working (at8 e) = (7, e.alone_at)
  working (at9 e) = (8, e.alone_at)
  working (at10 e f) = (9, e.alone_at)
  working (at11 e s) = (10, e.alone_at)
  working (at12 e s v) = (11, e.alone_at)
  working (at13 e s v h n) = (12, e.alone_at)
  working (at14 e v h) = (13, e.alone_at)
  working (at15 e v) = (14, e.alone_at)
  working (at16 e) = (15, e.alone_at)
  working (at17 e) = (16, e.alone_at)
  working (at18 e) = (17, e.alone_at)
