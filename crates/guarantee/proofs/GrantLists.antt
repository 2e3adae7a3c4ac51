-- The grants that the pool lists for a client are those that the answers told it: a step that is granted opens one, a release that is done ends the
-- one of its page, and nothing else changes them. Once for one call of a reached pool, by what the invariant's `Told` says of its move, then along the
-- run. Assumes nothing.
use mathlib.Core.Path.{◌≡◌, refl, sym, ap, subst, ◌∙◌}
use mathlib.Core.Logic.{◌≢◌}
use mathlib.Core.List.{List}
use Prim.Native.Nat.{ℕ, ◌+◌, ◌-◌, ◌≤◌, ◌<◌}
use native.Mathlib.Omega.{arith}
use native.Mathlib.Decide.{ℕ_discrete}
use borrow.Author.Tests.{eqb-true}
use Rattle.pool.specs.Limits.{max_held}
use Rattle.pool.specs.State.{none, evicted, pinned, number_of_clients, pins, client, grant_page, grant_frame}
use Rattle.pool.specs.Answers.{value_of}
use Rattle.pool.specs.Grants.{grant_of}
use Rattle.pool.specs.Apply.{apply}
use Rattle.pool.specs.Calls.{turned_down, SetUp, caller, refusal, release_move, move_of, call_of}
use Rattle.pool.specs.declared.Pool.{Pool}
use Rattle.pool.specs.declared.Client.{Client}
use Rattle.pool.specs.declared.Move.{Move}
use Rattle.pool.specs.declared.Outcome.{Outcome}
use Rattle.pool.specs.declared.Call.{Call}
use Rattle.pool.specs.declared.Call.TheVariants.{Begin, Step, Release}
use Rattle.pool.specs.declared.Answer.TheVariants.{Granted}
use Rattle.pool.specs.declared.GrantChange.TheVariants.{Same, Open, End}
use Rattle.laws.specs.Choices.{by_test}
use Rattle.invariant.proofs.Reached.{Reached, grants_of}
use Rattle.invariant.proofs.After.{client_same, client_other}
use Rattle.invariant.proofs.Searches.{grant_of_found}
use Rattle.invariant.proofs.Sums.{one_is}
use Rattle.invariant.proofs.Grants.{GrantsOk, not_held, grants_of_ends, held_next, held_other, keep_page, keep_frame, grant_page_other, grant_frame_other}
use Rattle.invariant.proofs.Grants.{page_open_new, page_open_old, frame_open_new, frame_open_old, page_end_moved, page_end_old, frame_end_moved, frame_end_old}
use Rattle.invariant.proofs.Facts.{grant_pinned}
use Rattle.invariant.proofs.Allowed.{Allowed, allowed, may_step, may_release}
use Rattle.invariant.proofs.Edges.{Edge, released}
use Rattle.invariant.proofs.Told.{Told, goes_on, is_refused, opens, starts, ends, told}
use Rattle.invariant.proofs.Effects.{effect}
use Rattle.invariant.proofs.Steps.{call_edge}
use Rattle.invariant.proofs.Setup.{first_rests, first_reached}
use Rattle.invariant.proofs.Calls.{outcome_of, call_moves, call_turned_down}
use Rattle.guarantee.specs.Runs.{Event, events, along}
use Rattle.guarantee.specs.Claims.{OpenGrant, GrantOpens, GrantEnds, GrantsStay, GrantsAsTold, GrantLists}
use Rattle.guarantee.proofs.Along.{at_each}
use Rattle.guarantee.proofs.TurnedDown.{other_answer, other_call, same_stage, moved}

same_grant : {g h e f : ℕ} → g ≡ h → e ≡ f → ◌≡◌ {A = OpenGrant} (record { page = g; frame = e }) (record { page = h; frame = f })
same_grant a b = λ i. record { page = a i; frame = b i }

same_page : {k n : Client} → k ≡ n → k.page ≡ n.page
same_page e = ap (λ (k : Client). k.page) e

-- the event of a call that leaves o
abbrev event_with : Pool → Call → Outcome → Event
event_with p x o = record { before = p; asked = x; answer = o.answer; counted = o.counted; next = o.pool }

-- ---- the grants after a move of client c, which is call x

module _ (p : Pool) (r : Reached p) (c : ℕ) (here : c < number_of_clients p) (m : Move) (x : Call) where
  abbrev me : Client
  me = client p c

  abbrev few : (d : ℕ) → (client p d).held ≤ max_held
  few = r.ranges.held_ok

  abbrev made : Event
  made = event_with p x (outcome_of p c m)

  now : client (apply p c m) c ≡ m.next
  now = client_same p c m r.shape here

  held_now : (client (apply p c m) c).held ≡ m.next.held
  held_now = held_next p c m r.shape here few

  opened : (f : ℕ) → m.grants ≡ Open me.held me.page f → m.next.held ≡ me.held + 1 → me.held < max_held → GrantOpens c made f
  opened f g h room =
      record {
        one_more = held_now ∙ h;
        new = same_grant (page_open_new p c m r.shape here few _ f g h room) (omega (arith, frame_open_new p c m r.shape here few _ f g h room));
        others = λ i l. same_grant (page_open_old p c m r.shape here few _ f g h room i l) (frame_open_old p c m r.shape here few _ f g h room i l);
      }

  stayed : m.grants ≡ Same → m.next.held ≡ me.held → GrantsStay c made
  stayed g h =
      record {
        as_many = held_now ∙ h;
        each = λ i. same_grant (keep_page p c m r.shape here few g h i) (keep_frame p c m r.shape here few g h i);
      }

  ended : (i : ℕ) → m.grants ≡ End i (me.held - 1) → m.next.held ≡ me.held - 1 → i < me.held → GrantEnds c made (grant_page p c i)
  ended i g h l =
      let n : (client (apply p c m) c).held ≡ me.held - 1 = held_now ∙ h in
      let g' : ℕ = grant_page p c i in
      let now_none : grants_of (apply p c m) c g' ≡ 0 =
      omega (arith, grants_of_ends p c m r.shape here few i g h l g', r.singles.one_each c g', one_is g') in
      record {
        one_less = omega arith;
        place = i;
        inside = l;
        of_page = refl;
        gone = λ j a. not_held (apply p c m) c g' now_none j a;
        moved = λ a.
            let b : i < me.held - 1 = omega arith in
            rw n (same_grant (page_end_moved p c m r.shape here few i g h l b) (frame_end_moved p c m r.shape here few i g h l b));
        others = λ j a o.
            let b : j < me.held - 1 = omega arith in
            same_grant (page_end_old p c m r.shape here few i g h l j b o) (frame_end_old p c m r.shape here few i g h l j b o);
      }

  -- the others' stay
  other_client : caller x ≡ c → GrantsOk p c m → (d : ℕ) → d ≢ c → GrantsAsTold d made
  unfolding caller
  other_client e how d o =
      record {
        granted = λ f a _. absurd (o (sym (ap caller a) ∙ e));
        released = λ g a _. absurd (o (sym (ap caller a) ∙ e));
        otherwise = λ _ _. record {
          as_many = held_other p c m r.shape here few how d o;
          each = λ i.
              same_grant (grant_page_other p c m r.shape here few how d o i) (grant_frame_other p c m r.shape here few how d o i);
        };
        begun = λ g a _. absurd (o (sym (ap caller a) ∙ e));
        still_wants = λ _ z. let n = client_other p c m d o in ((λ s. z (same_stage n ∙ s)), same_page n);
      }

-- ---- each call

module _ (p : Pool) (r : Reached p) where
  begin_told : (c : ℕ) → c < number_of_clients p → (g : ℕ) → GrantsAsTold c (event_with p (Begin c g) (moved p (Begin c g)))
  unfolding move_of caller value_of
  begin_told c here g =
      record {
        granted = λ f a _. other_call a tt;
        released = λ h a _. other_call a tt;
        otherwise = λ _ _. stayed p r c here (move_of p (Begin c g)) (Begin c g) refl refl;
        begun = λ h _ b. same_page (now p r c here (move_of p (Begin c g)) (Begin c g)) ∙ ap value_of b;
        still_wants = λ z _. absurd (z (g, refl, refl));
      }

  -- a step that is not granted leaves the grants, and the page that the client wants if it goes on
  kept_told : (c : ℕ) → c < number_of_clients p → (client p c).stage ≢ 0 → ((f : ℕ) → (move_of p (Step c)).answer ≢ Granted f) → (move_of p (Step c)).grants ≡ Same
      → (move_of p (Step c)).next.held ≡ (client p c).held
      → ((move_of p (Step c)).next.stage ≢ 0 → (move_of p (Step c)).next.page ≡ (client p c).page) → GrantsAsTold c (event_with p (Step c) (moved p (Step c)))
  unfolding caller value_of
  kept_told c here busy a g h w =
      record {
        granted = λ f _ b. absurd (a f b);
        released = λ h a _. other_call a tt;
        otherwise = λ _ _. stayed p r c here _ (Step c) g h;
        begun = λ h a _. other_call a tt;
        still_wants = λ _ z. let n = now p r c here _ (Step c) in (busy, same_page n ∙ w (λ s. z (same_stage n ∙ s)));
      }

  step_told : (c : ℕ) → c < number_of_clients p → (client p c).stage ≢ 0 → Told p c (move_of p (Step c)) → GrantsAsTold c (event_with p (Step c) (moved p (Step c)))
  unfolding caller value_of
  step_told c here busy (opens f _ a g h s) =
      record {
        granted = λ e _ b. subst (GrantOpens c _) (ap value_of (sym a ∙ b)) (opened p r c here _ (Step c) f g h (omega (arith, r.ranges.working_held c busy)));
        released = λ h a _. other_call a tt;
        otherwise = λ z _. absurd (z (f, refl, a));
        begun = λ h a _. other_call a tt;
        still_wants = λ _ z. absurd (z (same_stage (now p r c here _ (Step c)) ∙ s));
      }
  step_told c here busy (goes_on _ _ a g h w) = kept_told c here busy (λ f b. other_answer (sym a ∙ b) tt) g h (λ _. w)
  step_told c here busy (is_refused a g h s) = kept_told c here busy (λ f b. other_answer (sym a ∙ b) tt) g h (λ z. absurd (z s))
  step_told c here busy (starts s _ _ _) = absurd (busy s)
  step_told c here busy (ends _ s _ _ _ _) = absurd (busy s)

  release_told : (c : ℕ) → c < number_of_clients p → (g : ℕ) → grant_of p c g ≢ none → GrantsAsTold c (event_with p (Release c g) (moved p (Release c g)))
  unfolding move_of caller release_move value_of
  release_told c here g z = by_test Ends (λ t. absurd (omega (arith, two, eqb-true (pins p f) evicted t))) (λ _. ending)
    where
      i : ℕ
      i = grant_of p c g

      f : ℕ
      f = grant_frame p c i

      Ends : Move → Type 0
      Ends m = GrantsAsTold c (event_with p (Release c g) (outcome_of p c m))

      found : (i < (client p c).held) × (grant_page p c i ≡ g)
      found = grant_of_found p c g z

      two : pinned 1 ≤ pins p f
      two = grant_pinned p r c i (r.mapping.grant_named c i found.0)

      ending : Ends (released p c g)
      ending =
          record {
            granted = λ f a _. other_call a tt;
            released = λ h _ b. subst (GrantEnds c _) (found.1 ∙ ap value_of b) (ended p r c here _ (Release c g) i refl refl found.0);
            otherwise = λ _ z. absurd (z (g, refl, refl));
            begun = λ h a _. other_call a tt;
            still_wants = λ _ z. let n = now p r c here _ (Release c g) in ((λ s. z (same_stage n ∙ s)), same_page n);
          }

  own_told : (x : Call) → refusal p x ≡ 0 → GrantsAsTold (caller x) (event_with p x (moved p x))
  unfolding caller
  own_told x e = go x (allowed p x e) (call_edge p x r e).1
    where
      go : (x : Call) → Allowed p x → Edge p (caller x) (move_of p x) → GrantsAsTold (caller x) (event_with p x (moved p x))
      go (Begin c g) a w = begin_told c a.here g
      go (Step c) a w = let busy = may_step p (client p c) c a.may in step_told c a.here busy (told p c w)
      go (Release c g) a w = release_told c a.here g (may_release p (client p c) c g a.may).1

  turned_told : (x : Call) (n c : ℕ) → GrantsAsTold c (event_with p x (turned_down n p))
  turned_told x n c =
      record {
        granted = λ f _ a. other_answer a tt;
        released = λ g _ a. other_answer a tt;
        otherwise = λ _ _. record { as_many = refl; each = λ _. refl };
        begun = λ g _ a. other_answer a tt;
        still_wants = λ _ z. (z, refl);
      }

  call_told : (x : Call) (c : ℕ) → GrantsAsTold c (event_with p x (call_of p x))
  call_told x c = go (ℕ_discrete (refusal p x) 0)
    where
      is : {o : Outcome} → call_of p x ≡ o → GrantsAsTold c (event_with p x o) → GrantsAsTold c (event_with p x (call_of p x))
      is e h = subst (λ (o : Outcome). GrantsAsTold c (event_with p x o)) (sym e) h

      by : refusal p x ≡ 0 → Dec (c ≡ caller x) → GrantsAsTold c (event_with p x (moved p x))
      by e (yes w) = subst (λ (d : ℕ). GrantsAsTold d (event_with p x (moved p x))) (sym w) (own_told x e)
      by e (no w) =
          let v = call_edge p x r e in
          other_client p r (caller x) v.0 (move_of p x) x refl (effect p (caller x) v.0 r v.1).grants c w

      go : Dec (refusal p x ≡ 0) → GrantsAsTold c (event_with p x (call_of p x))
      go (yes e) = is (call_moves p x r e) (by e (ℕ_discrete c (caller x)))
      go (no z) = is (call_turned_down p x (refusal p x) refl z) (turned_told x (refusal p x) c)

-- ---- the claim

pub grant_lists : (p : Pool) → SetUp p → (calls : List Call) → GrantLists p (along (events p calls))
grant_lists p u calls =
    record {
      rests_at_first = λ c. same_stage (first_rests u c);
      none_at_first = λ c. ap (λ (k : Client). k.held) (first_rests u c);
      as_told = λ c. at_each (λ _. Unit {0}) (GrantsAsTold c) (λ p x r _. call_told p r x c) p calls (first_reached u);
    }
