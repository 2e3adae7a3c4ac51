-- The busy visits of one client among the first events of a list, one event more in front at a time. While the client's steps see a frame or are busy
-- visits, its place i and its busy run r say which slots are met: the r slots before i, round the end, no more, and every other one once (`Meeting`). A
-- busy visit of slot i takes it from the ones to the others. Where the busy run starts anew, every slot is met once. Assumes nothing.
use mathlib.Core.Path.{◌≡◌, refl, sym, ap, subst, ◌∙◌}
use mathlib.Core.Logic.{◌⊎◌, inl, inr}
use mathlib.Core.List.{List, ◌∷◌}
use Prim.Native.Nat.{ℕ, zero, suc, ◌+◌, ◌≤◌, ◌<◌}
use native.Mathlib.Decide.{ℕ_discrete}
use native.Mathlib.Nat.{not-suc-le-zero, le_of_suc-le-suc}
use native.Mathlib.Omega.{arith}
use Rattle.pool.specs.State.{slot, client}
use Rattle.pool.specs.Stages.{around}
use Rattle.pool.specs.declared.Call.TheVariants.{Step}
use Rattle.invariant.proofs.StageTests.{differ}
use Rattle.guarantee.specs.Runs.{Event, At, along, Begins}
use Rattle.guarantee.specs.BusySweep.{MeetsBusy, finds_empty, finds_pinned, BusyVisit, SeesFrame, MeetsAllBusy, BusySince}
use Rattle.guarantee.proofs.TurnedDown.{other_call}
use Rattle.guarantee.proofs.Sweep.{Before, before_none, before_next, before_self, before_more, before_full}

-- ---- the first n events of a list: none of them, exactly one of them has a property

abbrev pub NoneOf : (Event → Type 0) → List Event → ℕ → Type 0
NoneOf P es n = (m : ℕ) → m < n → At P es m → ⊥

abbrev OneOf : (Event → Type 0) → List Event → ℕ → Type 0
OneOf P es n = (j : ℕ) × (j < n) × At P es j × ((i : ℕ) → i < n → At P es i → i ≡ j)

-- one event more in front
module _ (P : Event → Type 0) (e : Event) (es : List Event) (n : ℕ) where
  pub none_more : (P e → ⊥) → NoneOf P es n → NoneOf P (e ∷ es) (suc n)
  unfolding At
  none_more d h = elim [ zero ↦ λ _. d | suc m ↦ λ l. h m (le_of_suc-le-suc l) ]

  one_now : P e → NoneOf P es n → OneOf P (e ∷ es) (suc n)
  unfolding At
  one_now x h = (0, omega arith, x, elim [ zero ↦ λ _ _. refl | suc i ↦ λ l y. absurd (h i (le_of_suc-le-suc l) y) ])

  one_more : (P e → ⊥) → OneOf P es n → OneOf P (e ∷ es) (suc n)
  unfolding At
  one_more d h =
      (suc h.0, omega (arith, h.1), h.2, elim [ zero ↦ λ _ y. absurd (d y) | suc i ↦ λ l y. ap suc (h.3 i (le_of_suc-le-suc l) y) ])

-- ---- one event: it meets one slot busy, or sees a frame, and not both

meets_at : {c i : ℕ} {e : Event} → MeetsBusy c i e → (e.asked ≡ Step c) × ((client e.before c).place ≡ i)
meets_at (finds_empty a q _) = (a.0, q)
meets_at (finds_pinned a q _ _) = (a.0, q)

sees_not_busy : {c i : ℕ} {e : Event} → SeesFrame c e → MeetsBusy c i e → ⊥
sees_not_busy {e = e} s (finds_empty _ q z) = s.1 (ap (slot e.before) q ∙ z)
sees_not_busy s (finds_pinned a _ _ _) = differ 11 12 tt (sym s.0.1 ∙ a.1)

-- ---- the first n events, from a client c on whose sweep has come to slot i with busy run r

abbrev OnlyBusy : ℕ → ℕ → List Event → ℕ → Type 0
OnlyBusy c s es n = (m : ℕ) → m < n → At (λ e. e.asked ≡ Step c) es m → At (λ e. SeesFrame c e ⊎ BusyVisit s c e) es m

pub record Meeting (c s i r : ℕ) (es : List Event) (n : ℕ) : Type 0 where
  pub only : OnlyBusy c s es n
  pub before : (j : ℕ) → j < s → Before i r s j → NoneOf (MeetsBusy c j) es n
  pub others : (j : ℕ) → j < s → (Before i r s j → ⊥) → OneOf (MeetsBusy c j) es n
  pub unbegun : NoneOf (Begins c) es n

module _ (c s : ℕ) (es : List Event) where
  -- a busy run of S leaves none to be met
  pub met_all : {i r : ℕ} → i ≤ s → s ≤ r → Meeting c s i r es 0
  met_all {i} {r} h l =
      record {
        only = λ m b. absurd (not-suc-le-zero b);
        before = λ _ _ _ m b _. not-suc-le-zero b;
        others = λ j _ d. absurd (d (before_full i r s j h l));
        unbegun = λ m b _. not-suc-le-zero b;
      }

  module _ (e : Event) (n : ℕ) where
    only_more : (e.asked ≡ Step c → SeesFrame c e ⊎ BusyVisit s c e) → OnlyBusy c s es n → OnlyBusy c s (e ∷ es) (suc n)
    unfolding At
    only_more v h = elim [ zero ↦ λ _. v | suc m ↦ λ l. h m (le_of_suc-le-suc l) ]

    -- an event that is no busy visit of client c
    pub unmet_more : {i r : ℕ} → (e.asked ≡ Step c → SeesFrame c e) → (Begins c e → ⊥) → Meeting c s i r es n → Meeting c s i r (e ∷ es) (suc n)
    unmet_more v b h =
        record {
          only = only_more (λ a. inl (v a)) h.only;
          before = λ j l x. none_more (MeetsBusy c j) e es n (unmet j) (h.before j l x);
          others = λ j l x. one_more (MeetsBusy c j) e es n (unmet j) (h.others j l x);
          unbegun = none_more (Begins c) e es n b h.unbegun;
        }
      where
        unmet : (j : ℕ) → MeetsBusy c j e → ⊥
        unmet j w = sees_not_busy (v (meets_at w).0) w

    -- a busy visit to slot i
    pub met_more : {i r : ℕ} → i < s → r < s → MeetsBusy c i e → Meeting c s (around s i) (r + 1) es n → Meeting c s i r (e ∷ es) (suc n)
    met_more {i} {r} g f w h =
        record {
          only = only_more (λ _. inr (i, g, w)) h.only;
          before = λ j l x.
              none_more (MeetsBusy c j) e es n (λ y. before_self i r s f (subst (Before i r s) (here y) x)) (h.before j l (before_more i r s j g l (inr x)));
          others = λ j l x. elim (ℕ_discrete j i) [
            | yes q ↦ one_now (MeetsBusy c j) e es n (rw q w) (h.before j l (before_more i r s j g l (inl q)))
            | no q ↦
                one_more (MeetsBusy c j) e es n (λ y. q (here y))
                (h.others j l (λ y. elim (before_next i r s j g l y) [ inl z ↦ q z | inr z ↦ x z ]))
          ];
          unbegun = none_more (Begins c) e es n (λ b. other_call (sym b.1 ∙ (meets_at w).0) tt) h.unbegun;
        }
      where
        here : {j : ℕ} → MeetsBusy c j e → j ≡ i
        here y = sym (meets_at y).1 ∙ (meets_at w).1

    -- where the busy run starts anew, no slot is before the place
    pub restarted : {i : ℕ} → At (BusyVisit s c) es n → Meeting c s i 0 es (suc n) → MeetsAllBusy s (along (e ∷ es)) c 0 (suc n)
    unfolding At
    restarted {i} z h =
        record {
          only_busy = elim [ zero ↦ λ l. absurd (not-suc-le-zero l) | suc m ↦ λ _ l. h.only m l ];
          ends_busy = z;
          each_once = λ j l.
              let o = h.others j (omega arith) (before_none i s j (omega arith)) in (
                suc o.0,
                omega arith,
                o.1,
                o.2,
                elim [ zero ↦ λ l. absurd (not-suc-le-zero l) | suc i ↦ λ _ l y. ap suc (o.3 i l y) ],
              );
        }

    -- ---- one event more in front of what is claimed

    pub meets_all_more : {k : ℕ} → MeetsAllBusy s (along es) c k n → MeetsAllBusy s (along (e ∷ es)) c (suc k) (suc n)
    unfolding At
    meets_all_more h =
        record {
          only_busy = elim [ zero ↦ λ l. absurd (not-suc-le-zero l) | suc m ↦ λ l g. h.only_busy m (le_of_suc-le-suc l) (le_of_suc-le-suc g) ];
          ends_busy = h.ends_busy;
          each_once = λ j l.
              let o = h.each_once j l in (
                suc o.0,
                omega (arith, o.1),
                omega (arith, o.2),
                o.3,
                elim [ zero ↦ λ l. absurd (not-suc-le-zero l) | suc i ↦ λ l g y. ap suc (o.4 i (le_of_suc-le-suc l) (le_of_suc-le-suc g) y) ],
              );
        }

    pub busy_since_more : BusySince s (along es) c n → BusySince s (along (e ∷ es)) c (suc n)
    unfolding At
    busy_since_more h =
        record {
          begin = suc h.begin;
          begun = h.begun;
          same_request = elim [ zero ↦ λ l _ _. not-suc-le-zero l | suc m ↦ λ l g. h.same_request m (le_of_suc-le-suc l) (le_of_suc-le-suc g) ];
          since = suc h.since;
          after_begin = omega (arith, h.after_begin);
          before_answer = omega (arith, h.before_answer);
          meets_all = meets_all_more h.meets_all;
        }

    -- the event is the begin
    pub busy_since_begin : {k : ℕ} → Begins c e → k < n → NoneOf (Begins c) es (suc n) → MeetsAllBusy s (along es) c k n
        → BusySince s (along (e ∷ es)) c (suc n)
    unfolding At
    busy_since_begin {k} b l u h =
        record {
          begin = 0;
          begun = b;
          same_request = elim [ zero ↦ λ l _ _. not-suc-le-zero l | suc m ↦ λ _ g. u m (omega arith) ];
          since = suc k;
          after_begin = omega arith;
          before_answer = omega arith;
          meets_all = meets_all_more h;
        }
