-- How often the count of a frame is lowered before the frame is evicted. From the 4 that takes it on, as many visits are still due as its count says, or
-- fewer (`Due`), since only a 13 lowers a count, by one; and when a client comes to 14, its 13 has left the count at 0, so that none are. Assumes nothing.
use mathlib.Core.Path.{◌≡◌, refl, sym, ap, subst, ◌∙◌}
use mathlib.Core.Logic.{◌≢◌}
use mathlib.Core.List.{List, [], ◌∷◌}
use Prim.Native.Nat.{ℕ, zero, suc, ◌-◌, ◌≤◌, ◌<◌}
use native.Mathlib.Decide.{ℕ_discrete}
use native.Mathlib.Nat.{not-suc-le-zero, le_of_suc-le-suc}
use native.Mathlib.Omega.{arith}
use lib.ListN.{get_or}
use borrow.Author.Tests.{ne_eqb}
use Rattle.pool.specs.State.{none, evicted, total, number_of_clients, pins, count, client}
use Rattle.pool.specs.Frames.{free_frame}
use Rattle.pool.specs.Apply.{pins_after, counts_after, apply}
use Rattle.pool.specs.Stages.{raised, first_count, taking, no_stage, stages, stage_move, stage4, stage14}
use Rattle.pool.specs.Calls.{caller, move_of, call_of}
use Rattle.pool.specs.declared.Pool.{Pool}
use Rattle.pool.specs.declared.Client.{Client}
use Rattle.pool.specs.declared.Move.{Move}
use Rattle.pool.specs.declared.Outcome.{Outcome}
use Rattle.pool.specs.declared.Call.{Call}
use Rattle.pool.specs.declared.Call.TheVariants.{Step}
use Rattle.pool.specs.declared.Write.TheVariants.{PutCount}
use Rattle.laws.specs.Choices.{by_test, passed}
use Rattle.invariant.proofs.Reached.{Reached}
use Rattle.invariant.proofs.StageTests.{differ}
use Rattle.invariant.proofs.After.{CountsPut, client_here, client_same, all_clients, pins_kept, pins_else, count_kept, count_else, count_here}
use Rattle.invariant.proofs.Searches.{free_found, unreferenced_means}
use Rattle.invariant.proofs.NeverFails.{finds_some}
use Rattle.invariant.proofs.Edges.{Edge}
use Rattle.invariant.proofs.Steps.{call_edge}
use Rattle.invariant.proofs.Allowed.{allowed, only_step}
use Rattle.invariant.proofs.Calls.{reached_call, call_moves}
use Rattle.guarantee.specs.Runs.{Event, event_of, events, At, Run, along, AtLeast, enough, one_more}
use Rattle.guarantee.specs.Claims.{Takes, TakesWith, Lowers, SweepsOut, Lasts}
use Rattle.guarantee.proofs.Along.{at_each}
use Rattle.guarantee.proofs.TurnedDown.{same_pool, TurnedOrMove, turned, one_move, turned_or_move}
use Rattle.guarantee.proofs.Once.{takes_frame}
use Rattle.guarantee.proofs.AloneSteps.{step_allowed}
use Rattle.guarantee.proofs.CountMoves.{CountMove, keeps, raises, lowers, starts, count_move}

-- ---- counting events

module _ {P : Event → Type 0} where
  -- the same events, behind one more
  behind : (e : Event) (es : List Event) {k t n : ℕ} → AtLeast P (along es) k t n → AtLeast P (along (e ∷ es)) (suc k) t (suc n)
  unfolding At
  behind e es enough = enough
  behind e es (one_more {m = m} {n} a b w rest) = one_more {m = suc m} {n = suc n} (omega arith) (omega arith) w (behind e es rest)

  -- from one event sooner on; and where that event is one of them
  sooner : {run : Run} {k t n : ℕ} → AtLeast P run (suc k) t n → AtLeast P run k t n
  sooner enough = enough
  sooner (one_more {m = m} a b w rest) = one_more {m = m} (omega arith) b w (sooner rest)

  and_next : {run : Run} {k t n : ℕ} → suc k < n → run P (suc k) → AtLeast P run (suc k) t n → AtLeast P run k (suc t) n
  and_next {k = k} l w enough = one_more {m = suc k} (omega arith) l w enough
  and_next l w (one_more {m = m} a b v rest) = one_more {m = m} (omega arith) b v (and_next a w rest)

-- ---- how many visits are still due to frame f

-- no more than its count says, and none where a client is about to evict it
record Due (p : Pool) (f d : ℕ) : Type 0 where
  low : f < total p
  left : d ≤ count p f
  paid : (c : ℕ) → (client p c).stage ≡ 14 → (client p c).victim ≡ f → d ≡ 0

raised_more : (cap n : ℕ) → n ≤ raised cap n
unfolding raised
raised_more cap n = by_test (λ (x : ℕ). n ≤ x) (λ _. omega arith) (λ _. omega arith)

module _ (p : Pool) (r : Reached p) (f d : ℕ) (due : Due p f d) where
  data After (c : ℕ) (m : Move) : Type 0 where
    anew : (client p c).stage ≡ 4 → m.next.own ≡ f → After c m
    no_visit : Due (apply p c m) f d → After c m
    a_visit : d ≢ 0 → (client p c).stage ≡ 13 → count (apply p c m) f < count p f → Due (apply p c m) f (d - 1) → After c m

  module _ (c : ℕ) (m : Move) (here : c < number_of_clients p) where
    due_next : (e : ℕ) → e ≤ d → e ≤ count (apply p c m) f → (m.next.stage ≡ 14 → m.next.victim ≡ f → e ≡ 0) → Due (apply p c m) f e
    unfolding apply
    due_next e h n new =
        record {
          low = due.low;
          left = n;
          paid = all_clients p c m r.shape (λ _ k. k.stage ≡ 14 → k.victim ≡ f → e ≡ 0) here (λ b _ s v. omega (arith, due.paid b s v)) new;
        }

    -- where the move leads to another stage than 14
    keeps_due : d ≤ count (apply p c m) f → m.next.stage ≢ 14 → After c m
    keeps_due n s = no_visit (due_next d (omega arith) n (λ t _. absurd (s t)))

    put_here : (g n : ℕ) → m.write ≡ PutCount g n → f ≡ g → count (apply p c m) f ≡ n
    unfolding counts_after
    put_here g n w e = ap (count (apply p c m)) e ∙ count_here p c m r.shape g n (rw w refl) (rw e at due.low)

    put_else : (g n : ℕ) → CountsPut p m.write g n → f ≢ g → d ≤ count (apply p c m) f
    put_else g n w e = rw (count_else p c m g n w f e) due.left

    after_move : CountMove p (client p c) m → After c m
    unfolding counts_after
    after_move (keeps w s) = keeps_due (rw (count_kept p c m w f) due.left) s
    after_move (raises {f = g} w s) = keeps_due (by (ℕ_discrete f g)) s
      where
        by : Dec (f ≡ g) → d ≤ count (apply p c m) f
        by (yes e) = omega (arith, due.left, ap (count p) e, put_here g _ w e, raised_more p.cap (count p g))
        by (no e) = put_else g (raised p.cap (count p g)) (rw w refl) e
    after_move (lowers s w h) = by (ℕ_discrete f v) (ℕ_discrete d 0)
      where
        v : ℕ
        v = (client p c).victim

        by : Dec (f ≡ v) → Dec (d ≡ 0) → After c m
        by (yes e) (yes z) = no_visit (due_next d (omega arith) (omega arith) (λ _ _. z))
        by (yes e) (no z) =
            let was = ap (count p) e in
            let is = put_here v _ w e in
            a_visit z s (omega (arith, due.left, was, is))
            (due_next (d - 1) (omega arith) (omega (arith, due.left, was, is)) (λ t _. omega (arith, due.left, was, (h t).1)))
        by (no e) _ = no_visit (due_next d (omega arith) (put_else v (count p v - 1) (rw w refl) e) (λ t q. absurd (e (sym q ∙ (h t).0))))
    after_move (starts {n} s w t) = by (ℕ_discrete f m.next.own)
      where
        by : Dec (f ≡ m.next.own) → After c m
        by (yes e) = anew s (sym e)
        by (no e) = keeps_due (put_else m.next.own n (rw w refl) e) t

data AfterCall (p : Pool) (x : Call) (f d : ℕ) : Type 0 where
  takes : Takes f (event_of p x) → AfterCall p x f d
  as_due : Due (call_of p x).pool f d → AfterCall p x f d
  visits : d ≢ 0 → Lowers f (event_of p x) → Due (call_of p x).pool f (d - 1) → AfterCall p x f d

after_call : (p : Pool) (x : Call) → Reached p → (f d : ℕ) → Due p f d → AfterCall p x f d
after_call p x r f d due = go (turned_or_move p x)
  where
    c : ℕ
    c = caller x

    go : TurnedOrMove p x (call_of p x) → AfterCall p x f d
    go (turned _ _ q) = as_due (subst (λ (y : Outcome). Due y.pool f d) (sym q) due)
    go (one_move e _ q) = by (after_move p r f d due c (move_of p x) w.0 (count_move p x r e))
      where
        w : (c < number_of_clients p) × Edge p c (move_of p x)
        w = call_edge p x r e

        step : (i : ℕ) → (client p c).stage ≡ suc i → x ≡ Step c
        step i s = only_step p x (allowed p x e) (λ y. let n : suc i ≡ 0 = sym s ∙ y in omega arith)

        by : After p r f d due c (move_of p x) → AfterCall p x f d
        by (anew s o) = takes (takes_frame p x r e q s o)
        by (no_visit h) = as_due (subst (λ (y : Outcome). Due y.pool f d) (sym q) h)
        by (a_visit z s l h) =
            let now : count (call_of p x).pool f ≡ count (apply p c (move_of p x)) f = ap (λ (y : Outcome). count y.pool f) q in
            visits z (c, (step 12 s, s), omega (arith, l, now)) (subst (λ (y : Outcome). Due y.pool f (d - 1)) (sym q) h)

-- ---- it starts with the 4 that takes the frame, and the 14 that evicts it finds nothing due

-- a step is the move of the stage where its client stands
module _ (p : Pool) (r : Reached p) (c i : ℕ) (e : (client p c).stage ≡ suc i) where
  here : c < number_of_clients p
  here = client_here p (λ k. k.stage ≡ suc i) c e (λ q. let z : 0 ≡ suc i = q in omega arith)

  steps_by : (call_of p (Step c)).pool ≡ apply p c (get_or stages (suc i) no_stage p (client p c))
  unfolding caller move_of stage_move
  steps_by =
      same_pool (call_moves p (Step c) r (step_allowed p c r here (λ z. let q : suc i ≡ 0 = sym e ∙ z in omega arith)))
      ∙ ap (λ (j : ℕ). apply p c (get_or stages j no_stage p (client p c))) e

-- frame f starts with count t
abbrev Started : ℕ → ℕ → Pool → Type 0
Started t f p = (count p f ≡ t) × Due p f t

module _ (p : Pool) (r : Reached p) (c t : ℕ) (e : (client p c).stage ≡ 4) (first : first_count p.cap (client p c).page ≡ t) where
  abbrev taken : Move
  taken = taking (client p c) p.cap (free_frame p)

  z : free_frame p ≢ none
  z = finds_some p r c (here p r c 3 e) e

  takes_by : (call_of p (Step c)).pool ≡ apply p c taken
  unfolding stage4
  takes_by = steps_by p r c 3 e ∙ ap (apply p c) (passed _ _ _ (ne_eqb _ none z))

  own_is : (client (call_of p (Step c)).pool c).own ≡ free_frame p
  own_is = ap (λ (y : Pool). (client y c).own) takes_by ∙ ap (λ (k : Client). k.own) (client_same p c taken r.shape (here p r c 3 e))

  started_own : Started t (free_frame p) (apply p c taken)
  unfolding counts_after apply
  started_own =
      let free = free_found p r.shape z in
      let is = count_here p c taken r.shape (free_frame p) _ refl free.0 in (
        omega (arith, is, first),
        record {
          low = free.0;
          left = omega (arith, is, first);
          paid = all_clients p c taken r.shape (λ _ k. k.stage ≡ 14 → k.victim ≡ free_frame p → t ≡ 0) (here p r c 3 e)
              (λ b _ _ v. absurd ((unreferenced_means p (free_frame p) z free.1).no_victim b v)) (λ s _. absurd (differ 5 14 tt s));
        },
      )

started : (p : Pool) (x : Call) → Reached p → (f t : ℕ) → TakesWith f t (event_of p x) → Started t f (call_of p x).pool
started p x r f t (k, w) =
    let c : ℕ = k.client_of in
    let e = k.step_of.1 in
    let first : first_count p.cap (client p c).page ≡ t = omega (arith, w) in
    subst (λ (y : Call). (client (call_of p y).pool c).own ≡ f → Started t f (call_of p y).pool) (sym k.step_of.0)
    (λ o. subst (λ (g : ℕ). Started t g (call_of p (Step c)).pool) (sym (own_is p r c t e first) ∙ o)
    (subst (Started t (free_frame p)) (sym (takes_by p r c t e first)) (started_own p r c t e first))) k.takes

-- a 14 evicts its victim and no other frame
abbrev EvictsOnly : Pool → ℕ → ℕ → Move → Type 0
EvictsOnly p c f m = pins (apply p c m) f ≡ evicted → (client p c).victim ≡ f

at_14 : (p : Pool) (c f : ℕ) → pins p f ≢ evicted → EvictsOnly p c f (get_or stages 14 no_stage p (client p c))
unfolding stage14 pins_after
at_14 p c f z =
    by_test (EvictsOnly p c f)
    (λ _ q. elim (ℕ_discrete f (client p c).victim) [ yes v ↦ sym v | no v ↦ absurd (z (sym (pins_else p c _ _ _ refl f v) ∙ q)) ])
    (λ _ q. absurd (z (sym (pins_kept p c _ refl f) ∙ q)))

swept : (p : Pool) (x : Call) → Reached p → (f d : ℕ) → Due p f d → SweepsOut f (event_of p x) → d ≡ 0
swept p x r f d due (c, (a, s), (z, e)) =
    let gone : pins (call_of p (Step c)).pool f ≡ evicted = rw a at e in
    due.paid c s (at_14 p c f z (sym (ap (λ (y : Pool). pins y f) (steps_by p r c 13 s)) ∙ gone))

-- ---- along a run

module _ (f : ℕ) where
  -- from a pool that event e left, up to the 14
  visits_due : (p : Pool) (calls : List Call) (d : ℕ) (e : Event) → Reached p → Due p f d → (n : ℕ) → ((m : ℕ) → m < n → At (Takes f) (events p calls) m → ⊥)
      → At (SweepsOut f) (events p calls) n → AtLeast (Lowers f) (along (e ∷ events p calls)) 0 d (suc n)
  unfolding events At
  visits_due p [] d e r due n free out = absurd out
  visits_due p (x ∷ calls) d e r due zero free out = rw (swept p x r f d due out) enough
  visits_due p (x ∷ calls) d e r due (suc n) free out =
      go (λ d due. behind e (events p (x ∷ calls)) (visits_due (call_of p x).pool calls d (event_of p x) (reached_call p x r) due n (λ m b. free (suc m) (omega arith)) out))
      (after_call p x r f d due)
    where
      run : Run
      run = along (e ∷ events p (x ∷ calls))

      go : ((d : ℕ) → Due (call_of p x).pool f d → AtLeast (Lowers f) run 1 d (suc (suc n))) → AfterCall p x f d → AtLeast (Lowers f) run 0 d (suc (suc n))
      go ih (takes w) = absurd (free 0 (omega arith) w)
      go ih (as_due w) = sooner (ih d w)
      go ih (visits z w less) = let e : suc (d - 1) ≡ d = omega arith in rw (← e) (and_next (omega arith) w (ih (d - 1) less))

  visits_after : (p : Pool) (calls : List Call) → Reached p → (t k n : ℕ) → At (TakesWith f t) (events p calls) k → k < n
      → ((m : ℕ) → k < m → m < n → At (Takes f) (events p calls) m → ⊥) → At (SweepsOut f) (events p calls) n
      → AtLeast (Lowers f) (along (events p calls)) k t n
  unfolding events At
  visits_after p [] r t k n a l free out = absurd out
  visits_after p (x ∷ calls) r t k zero a l free out = absurd (not-suc-le-zero l)
  visits_after p (x ∷ calls) r t zero (suc n) a l free out =
      visits_due (call_of p x).pool calls t (event_of p x) (reached_call p x r) (started p x r f t a).1 n (λ m b. free (suc m) (omega arith) (omega arith)) out
  visits_after p (x ∷ calls) r t (suc k) (suc n) a l free out =
      behind (event_of p x) (events (call_of p x).pool calls)
      (visits_after (call_of p x).pool calls (reached_call p x r) t k n a (le_of_suc-le-suc l) (λ m b c. free (suc m) (omega arith) (omega arith)) out)

pub lasts : (p : Pool) (calls : List Call) → Reached p → Lasts (along (events p calls))
lasts p calls r =
    record {
      starts = λ f t. at_each (TakesWith f t) (λ e. count e.next f ≡ t) (λ p x r w. (started p x r f t w).0) p calls r;
      lowered = λ f t k n. visits_after f p calls r t k n;
    }
