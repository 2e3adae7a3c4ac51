-- The claims of a run of calls, of a longer list that has the run in it (`Embedded`): a begin that 16 turned down has none of the properties that the
-- claims start from, and the calls keep their order. Assumes nothing.
use mathlib.Core.Path.{◌≡◌, sym, ap, subst, ◌∙◌}
use mathlib.Core.Logic.{◌⊎◌, ◌↔◌}
use mathlib.Core.Bool.{false}
use mathlib.Core.List.{List}
use Prim.Native.Nat.{ℕ, suc, ◌-◌, ◌≤◌, ◌<◌}
use native.Mathlib.Omega.{arith}
use native.Mathlib.Decide.{dec_lt}
use Rattle.pool.specs.State.{pins, count, client, grant_page, grant_frame}
use Rattle.pool.specs.Table.{resident}
use Rattle.pool.specs.Grants.{held}
use Rattle.pool.specs.Calls.{caller}
use Rattle.pool.specs.declared.Pool.{Pool}
use Rattle.pool.specs.declared.Call.TheVariants.{Begin, Step}
use Rattle.pool.specs.declared.Answer.TheVariants.{Done, Refused}
use Rattle.guarantee.specs.Runs.{Event, along, NoneBetween, Begins, GrantedTo, ExactlyOne, AtLeast, enough, one_more, AnswersTo, TurnedDown}
use Rattle.guarantee.specs.BusySweep.{MeetsBusy, finds_empty, finds_pinned, BusyVisit, SeesFrame, Refused15, MeetsAllBusy, BusySince, BusySweep}
use Rattle.guarantee.specs.Claims.{GrantsAsTold, GrantLists, BecomesEvicted, NoHeldEvicted, Evicts, Replaces, Takes, TakenOut, TakenOutOnce, TakesEffect}
use Rattle.guarantee.specs.Claims.{TakesEffectOnce, OneEffect, AllHeld, Alone, RefusedAlone, TakesWith, Lowers, SweepsOut, Lasts}
use Rattle.guarantee.specs.Progress.{step_bound, plain_bound, AcceptedStep, Answers, Places, OneAnswers, GetsThrough}
use Rattle.guarantee.proofs.TurnedDown.{other_answer, other_call}
use Rattle.memory.specs.Happenings.{Happening}
use Rattle.mixed.specs.Mixed.{amid}
use Rattle.mixed.proofs.Embedded.{Idle, Embedded, up, up_less, up_le_back, up_le, up_less_back, at_up, at_back, of_calls, idle, at_from, at_each}

-- ---- what such a begin has not

abbrev Proper : (Event → Type 0) → Type 0
Proper P = (e : Event) → Idle e → P e → ⊥

-- it is no step, and it is not done
no_step : {A : Type 0} {e : Event} {c : ℕ} → Idle e → e.asked ≡ Step c → A
no_step i a = other_call (sym i.asked ∙ a) tt

not_done : {A : Type 0} {e : Event} {g : ℕ} → Idle e → e.answer ≡ Done g → A
not_done i a = other_answer (sym i.answer ∙ a) tt

becomes_proper : (f : ℕ) → Proper (BecomesEvicted f)
becomes_proper f e i w = w.0 (ap (λ (p : Pool). pins p f) (sym i.leaves) ∙ w.1)

begins_proper : (c : ℕ) → Proper (Begins c)
begins_proper c e i w = not_done i w.2

meets_proper : (c j : ℕ) → Proper (MeetsBusy c j)
meets_proper c j e i (finds_empty s _ _) = no_step i s.0
meets_proper c j e i (finds_pinned s _ _ _) = no_step i s.0

-- and it leaves every client's grants and wish
idle_told : (c : ℕ) (e : Event) → Idle e → GrantsAsTold c e
idle_told c e i =
    record {
      granted = λ f a _. no_step i a;
      released = λ g _ a. not_done i a;
      otherwise = λ _ _. record {
        as_many = ap (λ (p : Pool). (client p c).held) i.leaves;
        each = λ j. ap (λ (p : Pool). record { page = grant_page p c j; frame = grant_frame p c j }) i.leaves;
      };
      begun = λ g _ a. not_done i a;
      still_wants = λ _ z. ((λ s. z (ap (λ (p : Pool). (client p c).stage) i.leaves ∙ s)), ap (λ (p : Pool). (client p c).page) i.leaves);
    }

-- ---- the claims

module _ {hs : List Happening} {es : List Event} (s : Embedded hs es) where
  -- where an event of the longer list stands among the calls
  down : (P : Event → Type 0) → Proper P → (n : ℕ) → amid hs P n → (m : ℕ) × (up s m ≡ n) × along es P m
  down P ok n a = elim (at_from P s n a) [ of_calls m e w ↦ (m, e, w) | idle e i w ↦ absurd (ok e i w) ]

  none_up : (P : Event → Type 0) → Proper P → (k n : ℕ) → NoneBetween P (along es) k n → NoneBetween P (amid hs) (up s k) (up s n)
  none_up P ok k n base m a b w =
      let d = down P ok m w in
      base d.0 (up_less_back s k d.0 (rw d.1 a)) (up_less_back s d.0 n (rw d.1 b)) d.2

  none_down : (P : Event → Type 0) (k n : ℕ) → NoneBetween P (amid hs) (up s k) (up s n) → NoneBetween P (along es) k n
  none_down P k n t m a b w = t (up s m) (up_less s k m a) (up_less s m n b) (at_up P s m w)

  one_up : (P : Event → Type 0) → Proper P → (k n : ℕ) → ExactlyOne P (along es) k n → ExactlyOne P (amid hs) (up s k) (up s n)
  one_up P ok k n (j, a, b, w, only) = (up s j, up_less s k j a, up_le s j n b, at_up P s j w, unique)
    where
      unique : (i : ℕ) → up s k < i → i ≤ up s n → amid hs P i → i ≡ up s j
      unique i x y z =
          let d = down P ok i z in
          sym d.1 ∙ ap (up s) (only d.0 (up_less_back s k d.0 (rw d.1 x)) (up_le_back s d.0 n (rw d.1 y)) d.2)

  pub grants_in : {p : Pool} → GrantLists p (along es) → GrantLists p (amid hs)
  grants_in base =
      record {
        rests_at_first = base.rests_at_first;
        none_at_first = base.none_at_first;
        as_told = λ c. at_each (GrantsAsTold c) (idle_told c) s (base.as_told c);
      }

  pub no_held_evicted_in : NoHeldEvicted (along es) → NoHeldEvicted (amid hs)
  no_held_evicted_in base f n a =
      let d = down (BecomesEvicted f) (becomes_proper f) n a in
      subst (amid hs (λ e. held e.before f ≡ false)) d.1 (at_up (λ e. held e.before f ≡ false) s d.0 (base f d.0 d.2))

  taken_down : (f k i n : ℕ) → TakenOut (amid hs) f (up s k) i (up s n) → TakenOut (along es) f k i n
  taken_down f k i n t =
      record {
        later = up_less_back s k n t.later;
        replaces = at_back (Replaces f i) s n t.replaces;
        not_anew = none_down (Takes f) k n t.not_anew;
      }

  pub taken_out_once_in : TakenOutOnce (along es) → TakenOutOnce (amid hs)
  taken_out_once_in base f k i j m n a t u =
      let dk = down (Evicts f) (λ e x w. no_step x w.step_of.0) k a in
      let dm = down (Replaces f i) (λ e x w. no_step x w.step_of.0) m t.replaces in
      let dn = down (Replaces f j) (λ e x w. no_step x w.step_of.0) n u.replaces in
      let tk : TakenOut (amid hs) f (up s dk.0) i (up s dm.0) = rw (dk.1, dm.1) t in
      let uk : TakenOut (amid hs) f (up s dk.0) j (up s dn.0) = rw (dk.1, dn.1) u in
      let same = base f dk.0 i j dm.0 dn.0 dk.2 (taken_down f dk.0 i dm.0 tk) (taken_down f dk.0 j dn.0 uk) in
      (sym dm.1 ∙ ap (up s) same.0 ∙ dn.1, same.1)

  effect_up : (c n : ℕ) → TakesEffectOnce (along es) c n → TakesEffectOnce (amid hs) c (up s n)
  effect_up c n t =
      record {
        begin = up s t.begin;
        earlier = up_less s t.begin n t.earlier;
        begun = at_up (Begins c) s t.begin t.begun;
        same_request = none_up (Begins c) (begins_proper c) t.begin n t.same_request;
        no_other_answer = none_up (AnswersTo c) (λ e i w. no_step i w.0) t.begin n t.no_other_answer;
        once = one_up (TakesEffect c) (λ e i w. no_step i w.0) t.begin n t.once;
      }

  pub one_effect_in : OneEffect (along es) → OneEffect (amid hs)
  one_effect_in base c n a =
      let d = down (GrantedTo c) (λ e i w. no_step i w.1) n a in
      subst (TakesEffectOnce (amid hs) c) d.1 (effect_up c d.0 (base c d.0 d.2))

  abbrev Begun : Pool → ℕ → ℕ → Event → Type 0
  Begun p c g e = (e.before ≡ p) × (e.asked ≡ Begin c g) × (e.answer ≡ Done g)

  alone_down : (p : Pool) (c g k n : ℕ) → Alone (amid hs) p c g (up s k) (up s n) → Alone (along es) p c g k n
  alone_down p c g k n t =
      record {
        begun = at_back (Begun p c g) s k t.begun;
        others_rest = t.others_rest;
        later = up_less_back s k n t.later;
        answered = at_back (AnswersTo c) s n t.answered;
        same_request = none_down (Begins c) k n t.same_request;
        no_others = λ m x y u. at_back (λ e. (caller e.asked ≡ c) ⊎ TurnedDown e) s m
            (t.no_others (up s m) (up_less s k m x) (up_less s m n y) (at_up (λ _. Unit {0}) s m u));
      }

  pub refused_alone_in : RefusedAlone (along es) → RefusedAlone (amid hs)
  refused_alone_in base p c g k n t =
      let dk = down (Begun p c g) (λ e i w. not_done i w.2) k t.begun in
      let dn = down (AnswersTo c) (λ e i w. no_step i w.0) n t.answered in
      let tk : Alone (amid hs) p c g (up s dk.0) (up s dn.0) = rw (dk.1, dn.1) t in
      let b = base p c g dk.0 dn.0 (alone_down p c g dk.0 dn.0 tk) in
      subst (λ (n : ℕ). amid hs (λ e. e.answer ≡ Refused 15) n ↔ ((resident p g ≡ false) × AllHeld p)) dn.1
      ((λ w. b.0 (at_back (λ e. e.answer ≡ Refused 15) s dn.0 w)), (λ w. at_up (λ e. e.answer ≡ Refused 15) s dn.0 (b.1 w)))

  -- ---- how long a page stays

  at_least_up : (P : Event → Type 0) {k t n : ℕ} → AtLeast P (along es) k t n → AtLeast P (amid hs) (up s k) t (up s n)
  at_least_up P enough = enough
  at_least_up P {k} {n = n} (one_more {m = m} a b w rest) = one_more (up_less s k m a) (up_less s m n b) (at_up P s m w) (at_least_up P rest)

  pub lasts_in : Lasts (along es) → Lasts (amid hs)
  lasts_in base =
      record {
        starts = λ f t n a. let d = taken_down f t n a in subst (amid hs (λ e. count e.next f ≡ t)) d.1 (at_up _ s d.0 (base.starts f t d.0 d.2));
        lowered = λ f t k n a l anew out.
            let dk = taken_down f t k a in
            let dn = down (SweepsOut f) (λ e x w. no_step x w.1.0) n out in
            let i : ℕ = dk.0 in
            let j : ℕ = dn.0 in
            let later : up s i < up s j = rw (dk.1, dn.1) l in
            let not_anew : NoneBetween (Takes f) (amid hs) (up s i) (up s j) = rw (dk.1, dn.1) anew in
            rw (← dk.1, ← dn.1)
            (at_least_up (Lowers f) (base.lowered f t i j dk.2 (up_less_back s i j later) (none_down (Takes f) i j not_anew) dn.2));
      }
    where
      taken_down : (f t n : ℕ) → amid hs (TakesWith f t) n → (m : ℕ) × (up s m ≡ n) × along es (TakesWith f t) m
      taken_down f t n a = down (TakesWith f t) (λ e x w. no_step x w.0.step_of.0) n a

  -- ---- refused in company

  module _ (slots c : ℕ) where
    abbrev Sweeps : Event → Type 0
    Sweeps e = SeesFrame c e ⊎ BusyVisit slots c e

    meets_all_up : (k n : ℕ) → MeetsAllBusy slots (along es) c k n → MeetsAllBusy slots (amid hs) c (up s k) (up s n)
    meets_all_up k n t =
        record {
          only_busy = only;
          ends_busy = at_up (BusyVisit slots c) s n t.ends_busy;
          each_once = λ i l. one_up (MeetsBusy c i) (meets_proper c i) k n (t.each_once i l);
        }
      where
        only : (m : ℕ) → up s k < m → m ≤ up s n → amid hs (λ e. e.asked ≡ Step c) m → amid hs Sweeps m
        only m a b w =
            let d = down (λ e. e.asked ≡ Step c) (λ e i v. no_step i v) m w in
            subst (amid hs Sweeps) d.1
            (at_up Sweeps s d.0 (t.only_busy d.0 (up_less_back s k d.0 (rw d.1 a)) (up_le_back s d.0 n (rw d.1 b)) d.2))

    busy_since_up : (n : ℕ) → BusySince slots (along es) c n → BusySince slots (amid hs) c (up s n)
    busy_since_up n t =
        record {
          begin = up s t.begin;
          begun = at_up (Begins c) s t.begin t.begun;
          same_request = none_up (Begins c) (begins_proper c) t.begin n t.same_request;
          since = up s t.since;
          after_begin = up_less s t.begin t.since t.after_begin;
          before_answer = up_less s t.since n t.before_answer;
          meets_all = meets_all_up t.since n t.meets_all;
        }

  pub busy_sweep_in : (slots : ℕ) → BusySweep slots (along es) → BusySweep slots (amid hs)
  busy_sweep_in slots base c n a =
      let d = down (Refused15 c) (λ e i w. no_step i w.0) n a in
      subst (BusySince slots (amid hs) c) d.1 (busy_since_up slots c d.0 (base c d.0 d.2))

  -- ---- somebody gets through

  module _ (n : ℕ) (low : 1 ≤ n) (base : OneAnswers (along es AcceptedStep) (along es Answers) n) (x : Places (amid hs AcceptedStep) n) where
    -- where the i-th of the accepted steps stands among the calls
    place : (i : ℕ) → Dec (i < n) → ℕ
    place i (yes l) = (down AcceptedStep (λ e j w. no_step j w.1) (x.nth i) (x.has i l)).0
    place i (no _) = 0

    stands : (i : ℕ) → i < n → (z : Dec (i < n)) → (up s (place i z) ≡ x.nth i) × along es AcceptedStep (place i z)
    unfolding place
    stands i _ (yes l) = let d = down AcceptedStep (λ e j w. no_step j w.1) (x.nth i) (x.has i l) in (d.1, d.2)
    stands i l (no z) = absurd (z l)

    nth : ℕ → ℕ
    nth i = place i (dec_lt i n)

    there : (i : ℕ) → i < n → (up s (nth i) ≡ x.nth i) × along es AcceptedStep (nth i)
    unfolding nth
    there i l = stands i l (dec_lt i n)

    answers_up : (m : ℕ) × (x.nth 0 ≤ m) × (m ≤ x.nth (n - 1)) × amid hs Answers m
    answers_up =
        let stretch : Places (along es AcceptedStep) n = record {
          nth = nth;
          later = λ i l. up_less_back s (nth i) (nth (suc i)) (omega (arith, (there i (omega arith)).0, (there (suc i) l).0, x.later i l));
          has = λ i l. (there i l).1;
        } in
        let (m, a, b, w) = base stretch in (
          up s m,
          omega (arith, (there 0 (omega arith)).0, up_le s (nth 0) m a),
          omega (arith, (there (n - 1) (omega arith)).0, up_le s m (nth (n - 1)) b),
          at_up Answers s m w,
        )

  pub gets_through_in : (slots clients cap : ℕ) → 1 ≤ plain_bound slots clients cap → GetsThrough slots clients cap (along es AcceptedStep) (along es Answers)
      → GetsThrough slots clients cap (amid hs AcceptedStep) (amid hs Answers)
  gets_through_in slots clients cap low base =
      record {
        close = answers_up (step_bound slots clients cap) (omega arith) base.close;
        plain = answers_up (plain_bound slots clients cap) low base.plain;
      }
