-- At every answer 15 the client has met each slot busy since its begin. The run is followed back from the answer: up to the step that starts the busy run
-- anew the client visits slots, and its place and busy run say which it meets busy (`Meeting`); up to its begin no begin is met; and a client at rest is
-- not answered before it begins. Assumes nothing.
use mathlib.Core.Path.{◌≡◌, refl, sym, ap, subst, ◌∙◌}
use mathlib.Core.Logic.{◌≢◌, ◌⊎◌, inl, inr}
use mathlib.Core.Bool.{not}
use mathlib.Core.List.{List, [], ◌∷◌}
use Prim.Native.Nat.{ℕ, zero, suc, ◌<◌}
use native.Mathlib.Omega.{arith}
use lib.Dec.{T}
use Rattle.pool.specs.Answers.{refusal_of}
use Rattle.pool.specs.State.{pinned, slot, pins, client}
use Rattle.pool.specs.Apply.{apply}
use Rattle.pool.specs.Calls.{caller, move_of, call_of}
use Rattle.pool.specs.declared.Pool.{Pool}
use Rattle.pool.specs.declared.Client.{Client}
use Rattle.pool.specs.declared.Move.{Move}
use Rattle.pool.specs.declared.Call.{Call}
use Rattle.pool.specs.declared.Call.TheVariants.{Begin, Step, Release}
use Rattle.pool.specs.declared.Answer.TheVariants.{Refused}
use Rattle.invariant.proofs.Reached.{Reached}
use Rattle.invariant.proofs.After.{client_here}
use Rattle.invariant.proofs.StageTests.{T_not}
use Rattle.invariant.proofs.NeverFails.{know}
use Rattle.invariant.proofs.Setup.{first_rests, first_reached}
use Rattle.invariant.proofs.Steps.{around_ok}
use Rattle.invariant.proofs.Allowed.{Allowed, may_release}
use Rattle.invariant.proofs.Calls.{call_moves, never_stuck, reached_call}
use Rattle.guarantee.specs.Runs.{Event, event_of, events, At, along, Begins, AnswersTo, TurnedDown}
use Rattle.guarantee.specs.BusySweep.{MeetsBusy, finds_empty, finds_pinned, BusyVisit, Refused15, MeetsAllBusy, BusySince, BusySweep, ClaimBusySweep}
use Rattle.guarantee.proofs.Along.{at_each}
use Rattle.guarantee.proofs.TurnedDown.{same_answer, same_pool, other_answer, other_call, turned, one_move, turned_or_move, refused_by}
use Rattle.guarantee.proofs.TurnedDown.{is_done, is_stuck, done_or_stuck}
use Rattle.guarantee.proofs.OneClient.{ClientAfter, same, mine, client_after, begins_or_not, rest_unanswered}
use Rattle.guarantee.proofs.AloneSteps.{step_allowed}
use Rattle.guarantee.proofs.SweepMoves.{visiting, Busy, SweepMove, sees, counts, refuses, restarts, leaves, sweep_move}
use Rattle.guarantee.proofs.Meetings.{NoneOf, none_more, Meeting, met_all, unmet_more, met_more, restarted, meets_all_more, busy_since_more}
use Rattle.guarantee.proofs.Meetings.{busy_since_begin}

-- ---- followed back from the answer, at event n, to the client as it stands before the list's first event, k

-- it visits a slot, and its busy run goes on up to the answer
record FromHere (c s : ℕ) (k : Client) (es : List Event) (n : ℕ) : Type 0 where
  at : T (visiting k.stage)
  meeting : Meeting c s k.place k.busy es (suc n)
  ends : At (BusyVisit s c) es n

-- its begin is in the list; or only the step that starts the busy run anew is, at event m; or neither
data Followed (c s : ℕ) (k : Client) (es : List Event) (n : ℕ) : Type 0 where
  from_begin : BusySince s (along es) c n → Followed c s k es n
  in_list : (m : ℕ) → m < n → MeetsAllBusy s (along es) c m n → NoneOf (Begins c) es (suc n) → Followed c s k es n
  from_here : FromHere c s k es n → Followed c s k es n

-- ---- one call more in front

module _ (p : Pool) (x : Call) (c : ℕ) (r : Reached p) where
  abbrev k : Client
  k = client p c

  size_call : (call_of p x).pool.size ≡ p.size
  unfolding apply
  size_call =
      elim (turned_or_move p x) [
        | turned _ _ e ↦ ap (λ (q : Pool). q.size) (same_pool e)
        | one_move _ _ e ↦ ap (λ (q : Pool). q.size) (same_pool e)
      ]

  -- what the client's own step is to its sweep
  own_move : x ≡ Step c → SweepMove p k (move_of p x)
  unfolding move_of
  own_move a = subst (λ (y : Call). SweepMove p k (move_of p y)) (sym a) (sweep_move p k (r.ranges.stage_ok c))

  -- a victim with pins stands in the slot visited
  victim_there : k.stage ≡ 12 → pinned 0 < pins p k.victim → k.victim ≡ slot p k.place
  victim_there e h =
      let v = (know p r c 12 e).1 in
      let i = v.1 (λ d. let z : ⊥ = omega arith in z) in
      sym (ap (slot p) (sym (r.evictions.victim_place c i.0 (rw e tt) v.0 i.1)) ∙ i.1)

  meets : x ≡ Step c → Busy p k → MeetsBusy c k.place (event_of p x)
  meets a (inl b) = finds_empty (a, b.0) refl b.1
  meets a (inr b) = let v = victim_there b.0 b.1 in finds_pinned (a, b.0) refl v (omega (arith, b.1, ap (pins p) v))

  busy_visiting : Busy p k → T (visiting k.stage)
  busy_visiting (inl b) = rw b.0 tt
  busy_visiting (inr b) = rw b.0 tt

  no_begin : x ≡ Step c → Begins c (event_of p x) → ⊥
  no_begin a b = other_call (sym b.1 ∙ a) tt

  -- a begin or release of the client leaves it off the sweep
  step_or_off : caller x ≡ c → Allowed p x → (x ≡ Step c) ⊎ T (not (visiting (move_of p x).next.stage))
  unfolding caller move_of
  step_or_off = go x
    where
      go : (x : Call) → caller x ≡ c → Allowed p x → (x ≡ Step c) ⊎ T (not (visiting (move_of p x).next.stage))
      go (Begin d g) w a = inr tt
      go (Step d) w a = inl (ap Step w)
      go (Release d g) w a =
          let z : (client p d).stage ≡ 0 = (may_release p (client p d) d g a.may).0 in
          let s : (move_of p (Release d g)).next.stage ≡ 0 =
          elim (done_or_stuck p d g) [ is_done _ q ↦ q ∙ z | is_stuck q ↦ ap (λ (m : Move). m.next.stage) q ∙ z ] in
          inr (rw s tt)

  -- a step of a client that visits a slot is not turned down
  not_turned_down : T (visiting k.stage) → x ≡ Step c → TurnedDown (event_of p x) → ⊥
  unfolding refusal_of
  not_turned_down t a w =
      let z : k.stage ≢ 0 = λ e. rw e at t in
      let go = step_allowed p c r (client_here p (λ k. k.stage ≢ 0) c z (λ d. d refl)) z in
      let o = subst (λ (y : Call). (call_of p y).answer ≡ Refused w.0) a w.1 in
      let m = sym (same_answer (call_moves p (Step c) r go)) ∙ o in
      elim (refused_by p (Step c) w.0 m) [
        | inl q ↦ never_stuck p (Step c) r go (ap refusal_of m ∙ q)
        | inr q ↦ w.2 (ap refusal_of (sym m ∙ ap (λ (m : Move). m.answer) q.2))
      ]

  module _ (es : List Event) where
    abbrev e : Event
    e = event_of p x

    -- the answer
    refused_here : {m : Move} → x ≡ Step c → SweepMove p k m → m.answer ≡ Refused 15 → FromHere c p.size k (e ∷ es) 0
    unfolding refusal_of At
    refused_here a (sees _ _) w = other_answer w tt
    refused_here a (counts _) w = other_answer w tt
    refused_here a restarts w = other_answer w tt
    refused_here a (leaves _ z) w = absurd (z (ap refusal_of w))
    refused_here a (refuses b z) w =
        record {
          at = busy_visiting b;
          meeting = met_more c p.size es e 0 (r.ranges.place_ok c) (r.ranges.busy_ok c) (meets a b)
              (met_all c p.size es (omega (arith, around_ok p.size k.place r.shape.size_low)) (omega arith));
          ends = (k.place, r.ranges.place_ok c, meets a b);
        }

    -- the client's own step
    followed_step : (n : ℕ) {m : Move} → x ≡ Step c → SweepMove p k m → FromHere c p.size m.next es n → Followed c p.size k (e ∷ es) (suc n)
    unfolding At
    followed_step n a (sees w z) h =
        from_here (record { at = rw w tt; meeting = unmet_more c p.size es e (suc n) (λ _. ((a, w), z)) (no_begin a) h.meeting; ends = h.ends })
    followed_step n a (counts b) h =
        from_here (record {
          at = busy_visiting b;
          meeting = met_more c p.size es e (suc n) (r.ranges.place_ok c) (r.ranges.busy_ok c) (meets a b) h.meeting;
          ends = h.ends;
        })
    followed_step n a (refuses _ _) h = absurd h.at
    followed_step n a restarts h =
        in_list 0 (omega arith) (restarted c p.size es e n h.ends h.meeting) (none_more (Begins c) e es (suc n) (no_begin a) h.meeting.unbegun)
    followed_step n a (leaves {m} t _) h = absurd (T_not (visiting m.next.stage) t h.at)

    -- any call, after which the busy run goes on
    followed_call : (n : ℕ) → FromHere c p.size (client (call_of p x).pool c) es n → Followed c p.size k (e ∷ es) (suc n)
    unfolding At caller move_of
    followed_call n h = go (client_after p x c r.shape)
      where
        go : ClientAfter p x c → Followed c p.size k (e ∷ es) (suc n)
        go (same w d) =
            let b : FromHere c p.size k es n = subst (λ (k : Client). FromHere c p.size k es n) w h in
            from_here (record {
              at = b.at;
              meeting = unmet_more c p.size es e (suc n) (λ a. absurd (not_turned_down b.at a (d (ap caller a))))
                  (λ y. other_answer (sym (d (ap caller y.1)).1 ∙ y.2) tt) b.meeting;
              ends = b.ends;
            })
        go (mine w a o m) =
            let b : FromHere c p.size (move_of p x).next es n = subst (λ (k : Client). FromHere c p.size k es n) m h in
            elim (step_or_off w a) [ inl q ↦ followed_step n q (own_move q) b | inr t ↦ absurd (T_not (visiting (move_of p x).next.stage) t b.at) ]

    followed_more : (n : ℕ) → Followed c p.size (client (call_of p x).pool c) es n → Followed c p.size k (e ∷ es) (suc n)
    followed_more n (from_begin h) = from_begin (busy_since_more c p.size es e n h)
    followed_more n (in_list m l h u) = elim (begins_or_not p x c r.shape) [
      | yes b ↦ from_begin (busy_since_begin c p.size es e n b l u h)
      | no d ↦ in_list (suc m) (omega arith) (meets_all_more c p.size es e n h) (none_more (Begins c) e es (suc n) d u)
    ]
    followed_more n (from_here h) = followed_call n h

-- ---- along a run

follow_back : (p : Pool) (calls : List Call) → Reached p → (c n : ℕ) → At (Refused15 c) (events p calls) n
    → Followed c p.size (client p c) (events p calls) n
unfolding events At caller refusal_of
follow_back p [] r c n a = absurd a
follow_back p (x ∷ calls) r c zero a =
    elim (client_after p x c r.shape) [
      | same _ d ↦ (let t = d (ap caller a.0) in absurd (t.2 (ap refusal_of (sym t.1 ∙ a.1))))
      | mine _ _ o _ ↦ from_here (refused_here p x c r (events (call_of p x).pool calls) a.0 (own_move p x c r a.0) (sym (same_answer o) ∙ a.1))
    ]
follow_back p (x ∷ calls) r c (suc n) a =
    followed_more p x c r (events (call_of p x).pool calls) n
    (subst (λ (s : ℕ). Followed c s (client (call_of p x).pool c) (events (call_of p x).pool calls) n) (size_call p x c r)
    (follow_back (call_of p x).pool calls (reached_call p x r) c n a))

-- from a pool whose clients rest
pub busy_sweep_from : (p : Pool) (calls : List Call) → Reached p → ((c : ℕ) → (client p c).stage ≡ 0) → BusySweep p.size (along (events p calls))
busy_sweep_from p calls r rests c n a =
    elim (follow_back p calls r c n a) [
      | from_begin h ↦ h
      | in_list _ _ _ u ↦
          absurd (rest_unanswered p calls r c n (rests c) (λ m l. u m (omega arith))
          (at_each (Refused15 c) (AnswersTo c) (λ _ _ _ b. (b.0, inr b.1)) p calls r n a))
      | from_here h ↦ absurd (rw (rests c) at h.at)
    ]

pub busy_sweep : ClaimBusySweep
busy_sweep p u calls = busy_sweep_from p calls (first_reached u) (λ c. rw (first_rests u c) refl)
