-- Once a stage 15 has replaced a frame, and until a stage 4 takes it, the frame stands in no slot and is nobody's own (`OutOfSlot`). So between two stages
-- 15 that replace it a stage 4 takes it; and one stage 15 replaces it in one slot, as no two slots name it. Assumes nothing.
use mathlib.Core.Path.{◌≡◌, sym, ap, subst, ◌∙◌}
use mathlib.Core.Logic.{◌≢◌, ◌⊎◌, inl, inr}
use mathlib.Core.List.{List, [], ◌∷◌}
use Prim.Native.Nat.{ℕ, zero, suc, ◌<◌}
use native.Mathlib.Decide.{ℕ_discrete, dec_lt}
use native.Mathlib.Nat.{not-suc-le-zero, le_of_suc-le-suc}
use native.Mathlib.Omega.{arith}
use Rattle.pool.specs.State.{none, evicted, number_of_clients, slot, pins, client}
use Rattle.pool.specs.Apply.{apply}
use Rattle.pool.specs.Calls.{caller, refusal, move_of, call_of}
use Rattle.pool.specs.declared.Pool.{Pool}
use Rattle.pool.specs.declared.Client.{Client}
use Rattle.pool.specs.declared.Move.{Move}
use Rattle.pool.specs.declared.Outcome.{Outcome}
use Rattle.pool.specs.declared.Call.{Call}
use Rattle.pool.specs.declared.Call.TheVariants.{Step}
use Rattle.invariant.proofs.Reached.{Reached}
use Rattle.invariant.proofs.After.{client_same, all_clients}
use Rattle.invariant.proofs.Searches.{pins_named}
use Rattle.invariant.proofs.Facts.{own_pins}
use Rattle.invariant.proofs.Edges.{Edge}
use Rattle.invariant.proofs.Steps.{call_edge}
use Rattle.invariant.proofs.Effects.{OwnOk, own_forgotten, own_stays, own_taken, effect}
use Rattle.invariant.proofs.Next.{slot_now, slot_or_replaced}
use Rattle.invariant.proofs.Allowed.{allowed, only_step}
use Rattle.invariant.proofs.Calls.{reached_call}
use Rattle.guarantee.specs.Runs.{event_of, events, At, along}
use Rattle.guarantee.specs.Claims.{Evicts, Replaces, Takes, TakenOutOnce}
use Rattle.guarantee.proofs.Along.{at_some, at_both}
use Rattle.guarantee.proofs.TurnedDown.{moved, TurnedOrMove, turned, one_move, turned_or_move}

-- ---- a frame that is out stays so until a stage 4 takes it

record OutOfSlot (p : Pool) (f : ℕ) : Type 0 where
  no_slot : (i : ℕ) → slot p i ≢ f
  no_own : (c : ℕ) → (client p c).own ≢ f

-- frame f is nobody's own, and the client that moves takes no frame
module _ (p : Pool) (r : Reached p) (f : ℕ) (z : f ≢ none) (unowned : (c : ℕ) → (client p c).own ≢ f) where
  not_own : (c : ℕ) (m : Move) → c < number_of_clients p → Edge p c m → (client p c).stage ≢ 4 → m.next.own ≢ f
  not_own c m here w s e = by (effect p c here r w).own
    where
      by : OwnOk p c m → ⊥
      by (own_stays q _) = unowned c (sym q ∙ e)
      by (own_forgotten q) = z (sym e ∙ q)
      by (own_taken q _ _ _) = s q

  -- then a move puts it into no slot, so it is out if every slot that named it does no more
  out_move : (c : ℕ) (m : Move) → c < number_of_clients p → Edge p c m → m.next.own ≢ f → ((i : ℕ) → slot p i ≡ f → slot (apply p c m) i ≢ f)
      → OutOfSlot (apply p c m) f
  out_move c m here w u s =
      record {
        no_slot = λ i e. elim (slot_now (effect p c here r w) i) [ inl q ↦ s i (sym q ∙ e) e | inr q ↦ unowned c (sym q.0 ∙ e) ];
        no_own = all_clients p c m r.shape (λ _ k. k.own ≢ f) here (λ d _. unowned d) u;
      }

-- a call whose client stands at 4 takes the frame that its move makes the own frame
pub takes_frame : (p : Pool) (x : Call) {f : ℕ} → Reached p → refusal p x ≡ 0 → call_of p x ≡ moved p x → (client p (caller x)).stage ≡ 4
    → (move_of p x).next.own ≡ f → Takes f (event_of p x)
takes_frame p x r e q s o =
    let c : ℕ = caller x in
    record {
      client_of = c;
      step_of = (only_step p x (allowed p x e) (λ y. let n : ◌≡◌ {A = ℕ} 4 0 = sym s ∙ y in omega arith), s);
      takes = ap (λ (y : Outcome). (client y.pool c).own) q
          ∙ (ap (λ (k : Client). k.own) (client_same p c (move_of p x) r.shape (call_edge p x r e).0) ∙ o);
    }

out_call : (p : Pool) (x : Call) (f : ℕ) → Reached p → f ≢ none → OutOfSlot p f → OutOfSlot (call_of p x).pool f ⊎ Takes f (event_of p x)
out_call p x f r z o = go (turned_or_move p x)
  where
    c : ℕ
    c = caller x

    go : TurnedOrMove p x (call_of p x) → OutOfSlot (call_of p x).pool f ⊎ Takes f (event_of p x)
    go (turned _ _ q) = inl (subst (λ (y : Outcome). OutOfSlot y.pool f) (sym q) o)
    go (one_move e _ q) = by (ℕ_discrete (client p c).stage 4) (ℕ_discrete (move_of p x).next.own f)
      where
        w : (c < number_of_clients p) × Edge p c (move_of p x)
        w = call_edge p x r e

        stays : (move_of p x).next.own ≢ f → OutOfSlot (call_of p x).pool f
        stays u =
            subst (λ (y : Outcome). OutOfSlot y.pool f) (sym q)
            (out_move p r f z o.no_own c (move_of p x) w.0 w.1 u (λ i s. absurd (o.no_slot i s)))

        by : Dec ((client p c).stage ≡ 4) → Dec ((move_of p x).next.own ≡ f) → OutOfSlot (call_of p x).pool f ⊎ Takes f (event_of p x)
        by (no s) _ = inl (stays (not_own p r f z o.no_own c (move_of p x) w.0 w.1 s))
        by (yes s) (no u) = inl (stays u)
        by (yes s) (yes u) = inr (takes_frame p x r e q s u)

-- ---- a stage 15 that replaces it makes it so

replaced_out : (p : Pool) (x : Call) (f i : ℕ) → Reached p → f ≢ none → Replaces f i (event_of p x) → OutOfSlot (call_of p x).pool f
unfolding caller
replaced_out p x f i r z h =
    subst (λ (y : Call). slot (call_of p y).pool i ≢ f → OutOfSlot (call_of p y).pool f) (sym h.step_of.0)
    (go (turned_or_move p (Step c))) h.names_no_more
  where
    c : ℕ
    c = h.client_of

    m : Move
    m = move_of p (Step c)

    out : c < number_of_clients p → Edge p c m → slot (apply p c m) i ≢ f → OutOfSlot (apply p c m) f
    out here w n =
        out_move p r f z unowned c m here w
        (not_own p r f z unowned c m here w (λ s. let y : ◌≡◌ {A = ℕ} 15 4 = sym h.step_of.1 ∙ s in omega arith))
        (λ j s e. n (ap (slot (apply p c m)) (sym (r.places.slots_distinct j i (λ q. z (sym s ∙ q)) (s ∙ sym h.named))) ∙ e))
      where
        -- a frame that leaves its slot is evicted, and an own frame is not
        dead : pins p f ≡ evicted
        dead = elim (slot_or_replaced (effect p c here r w) f i z h.named) [ inl q ↦ absurd (n q) | inr q ↦ q.0 ]

        unowned : (d : ℕ) → (client p d).own ≢ f
        unowned d e = omega (arith, own_pins p r d (λ q. z (sym e ∙ q)), ap (pins p) e ∙ dead)

    go : TurnedOrMove p (Step c) (call_of p (Step c)) → slot (call_of p (Step c)).pool i ≢ f → OutOfSlot (call_of p (Step c)).pool f
    go (turned _ _ q) n = absurd (n (ap (λ (o : Outcome). slot o.pool i) q ∙ h.named))
    go (one_move e _ q) n =
        let w = call_edge p (Step c) r e in
        subst (λ (o : Outcome). OutOfSlot o.pool f) (sym q) (out w.0 w.1 (λ s. n (ap (λ (o : Outcome). slot o.pool i) q ∙ s)))

-- ---- along a run

-- a frame that is out is replaced only after it was taken
taken_first : (p : Pool) (calls : List Call) (f i : ℕ) → Reached p → f ≢ none → OutOfSlot p f → (n : ℕ) → At (Replaces f i) (events p calls) n
    → (m : ℕ) × (m < n) × At (Takes f) (events p calls) m
unfolding events At
taken_first p [] f i r z o n h = absurd h
taken_first p (x ∷ calls) f i r z o zero h = absurd (o.no_slot i h.named)
taken_first p (x ∷ calls) f i r z o (suc n) h =
    let ih = taken_first (call_of p x).pool calls f i (reached_call p x r) z in
    elim (out_call p x f r z o) [ inl q ↦ (let w = ih q n h in (suc w.0, omega (arith, w.1), w.2)) | inr t ↦ (0, omega arith, t) ]

-- between two stages 15 that replace one frame, a stage 4 takes it
taken_between : (p : Pool) (calls : List Call) (f i j : ℕ) → Reached p → f ≢ none → (k n : ℕ) → k < n → At (Replaces f i) (events p calls) k
    → At (Replaces f j) (events p calls) n → (m : ℕ) × (k < m) × (m < n) × At (Takes f) (events p calls) m
unfolding events At
taken_between p [] f i j r z k n l a b = absurd a
taken_between p (x ∷ calls) f i j r z k zero l a b = absurd (not-suc-le-zero l)
taken_between p (x ∷ calls) f i j r z zero (suc n) l a b =
    let w = taken_first (call_of p x).pool calls f j (reached_call p x r) z (replaced_out p x f i r z a) n b in
    (suc w.0, omega arith, omega (arith, w.1), w.2)
taken_between p (x ∷ calls) f i j r z (suc k) (suc n) l a b =
    let w = taken_between (call_of p x).pool calls f i j (reached_call p x r) z k n (le_of_suc-le-suc l) a b in
    (suc w.0, omega (arith, w.1), omega (arith, w.2), w.3)

-- no two slots name one frame, so a stage 15 replaces it in one
one_slot : (p : Pool) (calls : List Call) (f i j : ℕ) → Reached p → f ≢ none → (n : ℕ) → At (Replaces f i) (events p calls) n
    → At (Replaces f j) (events p calls) n → i ≡ j
one_slot p calls f i j r z n a b =
    at_some (λ e. Replaces f i e × Replaces f j e) (i ≡ j)
    (λ p x r h. r.places.slots_distinct i j (λ q. z (sym h.0.named ∙ q)) (h.0.named ∙ sym h.1.named)) p calls r n
    (at_both (Replaces f i) (Replaces f j) (events p calls) n a b)

-- what is evicted is a frame
evicts_frame : (p : Pool) (calls : List Call) (f : ℕ) → Reached p → (k : ℕ) → At (Evicts f) (events p calls) k → f ≢ none
evicts_frame p calls f =
    at_some (Evicts f) (f ≢ none) (λ p x r e. pins_named p r.shape f e.becomes_evicted.0) p calls

pub taken_out_once : (p : Pool) (calls : List Call) → Reached p → TakenOutOnce (along (events p calls))
taken_out_once p calls r f k i j m n e a b = (same_event, omega (arith, same_slot))
  where
    z : f ≢ none
    z = evicts_frame p calls f r k e

    go : Dec (m < n) → Dec (n < m) → m ≡ n
    go (yes l) _ =
        let t = taken_between p calls f i j r z m n l a.replaces b.replaces in
        absurd (b.not_anew t.0 (omega (arith, a.later, t.1)) t.2 t.3)
    go (no _) (yes l) =
        let t = taken_between p calls f j i r z n m l b.replaces a.replaces in
        absurd (a.not_anew t.0 (omega (arith, b.later, t.1)) t.2 t.3)
    go (no x) (no y) = omega arith

    same_event : m ≡ n
    same_event = go (dec_lt m n) (dec_lt n m)

    same_slot : i ≡ j
    same_slot = one_slot p calls f i j r z m a.replaces (subst (At (Replaces f j) (events p calls)) (sym same_event) b.replaces)
