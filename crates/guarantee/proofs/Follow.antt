-- A call of the pool is one of a related sequential pool, with the same answer. Both turn the same calls down, as stages, page wanted and
-- numbers of grants are alike; a begin and a release change the client alone; and a step is a step there (`SimulateMoves`). Assumes nothing.
use mathlib.Core.Path.{◌≡◌, refl, sym, ap, ◌∙◌}
use mathlib.Core.Logic.{◌≢◌, inl}
use mathlib.Core.Bool.{Bool, true, false}
use mathlib.Core.List.{List}
use Prim.Native.Nat.{ℕ, ◌-◌, ◌≤◌, ◌<◌}
use native.Mathlib.Decide.{ℕ_discrete}
use native.Mathlib.Omega.{arith}
use lib.Dec.{eqb, ltb}
use lib.ListN.{length}
use borrow.Author.Tests.{eqb-true, eq-eqb, ne_eqb}
use Rattle.pool.specs.Limits.{max_held}
use Rattle.pool.specs.Choose.{choose, member}
use Rattle.pool.specs.State.{none, evicted, pinned, number_of_clients, pins, client, grant_page, grant_frame}
use Rattle.pool.specs.Grants.{grant_of}
use Rattle.pool.specs.Moves.{holding, completes}
use Rattle.pool.specs.Apply.{apply}
use Rattle.pool.specs.Calls.{caller, refusal_at, refusal, begin_move, release_move, move_of, call_of}
use Rattle.pool.specs.declared.Pool.{Pool}
use Rattle.pool.specs.declared.Client.{Client}
use Rattle.pool.specs.declared.Call.{Call}
use Rattle.pool.specs.declared.Call.TheVariants.{Begin, Step, Release}
use Rattle.pool.specs.declared.Move.{Move}
use Rattle.pool.specs.declared.Outcome.{Outcome}
use Rattle.pool.specs.declared.GrantChange.TheVariants.{End}
use Rattle.pool.specs.declared.Write.TheVariants.{PutPins}
use Rattle.laws.specs.Choices.{by_test, chosen, passed}
use Rattle.invariant.proofs.Reached.{Reached, one, grants_of}
use Rattle.invariant.proofs.After.{pins_in}
use Rattle.invariant.proofs.Searches.{grant_of_found}
use Rattle.invariant.proofs.Facts.{grant_pinned}
use Rattle.invariant.proofs.Grants.{ungranted, granted, grants_stay, grant_ends, grants_of_keeps, grants_of_ends}
use Rattle.invariant.proofs.Valid.{valid_reached}
use Rattle.invariant.proofs.Allowed.{Allowed, allowed, may_begin, may_step, may_release}
use Rattle.invariant.proofs.Edges.{Edge}
use Rattle.invariant.proofs.Steps.{call_edge}
use Rattle.invariant.proofs.Calls.{outcome_of, by_refusal}
use Rattle.guarantee.specs.Sequential.{SeqClient, Sequential, seq_client, without, seq_refusal, Rule, turns_down, begins, releases, steps}
use Rattle.guarantee.proofs.TurnedDown.{moved}
use Rattle.guarantee.proofs.SimulationRelation.{times, not_member, is_member, without_times, without_length, SimulationRelation, open_many, open_grants}
use Rattle.guarantee.proofs.ViewAfter.{counters_view, pins_view}
use Rattle.guarantee.proofs.Simulate.{Acting, same_slots}
use Rattle.guarantee.proofs.SeqClients.{related_resting}
use Rattle.guarantee.proofs.SimulateMoves.{simulated}

-- what a call leaves is what a rule of the sequential pool leaves
pub record Followed (q : Sequential) (x : Call) (o : Outcome) : Type 0 where
  pub state : Sequential
  pub rule : Rule q x o.answer state
  pub related : SimulationRelation o.pool state

choose_alike : {A : Type 0} (t : Bool) {x y v w : A} → (t ≡ true → x ≡ v) → (t ≡ false → y ≡ w) → choose t x y ≡ choose t v w
unfolding choose
choose_alike true a b = a refl
choose_alike false a b = b refl

module _ {p : Pool} {q : Sequential} (r : Reached p) (related : SimulationRelation p q) where
  -- ---- both turn the same calls down

  -- a client at rest holds a page in the one pool if it does in the other
  member_alike : {A : Type 0} (c g : ℕ) (x y : A) → (client p c).stage ≡ 0
      → choose (eqb (grant_of p c g) none) x y ≡ choose (member g (seq_client q c).grants) y x
  member_alike c g x y s = go (ℕ_discrete (grant_of p c g) none)
    where
      grants : List ℕ
      grants = (seq_client q c).grants

      open_on : times g grants ≡ grants_of p c g
      open_on = open_grants (related.clients c) (rw s refl) g

      go : Dec (grant_of p c g ≡ none) → choose (eqb (grant_of p c g) none) x y ≡ choose (member g grants) y x
      go (yes e) =
          chosen _ _ _ (eq-eqb _ _ e) ∙ sym (passed _ _ _ (not_member g grants (open_on ∙ ungranted p c g (r.ranges.held_ok c) e)))
      go (no z) =
          passed _ _ _ (ne_eqb _ _ z) ∙ sym (chosen _ _ _ (is_member g grants (λ w. omega (arith, open_on, granted p c g z))))

  -- what they find of a client that is there and rests decides
  resting_alike : (c a b : ℕ) → ((client p c).stage ≡ 0 → a ≡ b)
      → choose (ltb c (number_of_clients p)) (choose (eqb (client p c).stage 0) a 10) 9 ≡ choose (ltb c (number_of_clients p)) (choose (eqb (client p c).stage 0) b 10) 9
  resting_alike c a b e =
      choose_alike (ltb c (number_of_clients p)) (λ _. choose_alike (eqb (client p c).stage 0) (λ s. e (eqb-true _ _ s)) (λ _. refl)) (λ _. refl)

  pub refusal_alike : (x : Call) → refusal p x ≡ seq_refusal q x
  unfolding refusal refusal_at caller seq_refusal
  refusal_alike (Begin c g) = chosen _ _ _ (valid_reached p r) ∙ rw (related.count, (related.clients c).stage) (resting_alike c _ _ full)
    where
      full : (client p c).stage ≡ 0
          → ◌≡◌ {A = ℕ} (choose (ltb (client p c).held max_held) (choose (eqb (grant_of p c g) none) 0 18) 12)
          (choose (ltb (length (seq_client q c).grants) max_held) (choose (member g (seq_client q c).grants) 18 0) 12)
      full s = rw (open_many (related.clients c) (rw s refl)) (ap (λ (n : ℕ). choose (ltb (client p c).held max_held) n 12) (member_alike c g 0 18 s))
  refusal_alike (Step c) = chosen _ _ _ (valid_reached p r) ∙ rw (related.count, (related.clients c).stage) refl
  refusal_alike (Release c g) =
      chosen _ _ _ (valid_reached p r)
      ∙ rw (related.count, (related.clients c).stage) (resting_alike c _ _ (member_alike c g 13 0))

  -- ---- and make the same moves

  module _ (c : ℕ) (here : c < number_of_clients p) where
    acting : Acting p c q
    acting = record { here = here; reached = r; related = related }

    abbrev k : Client
    k = client p c

    abbrev t : SeqClient
    t = seq_client q c

    abbrev few : (d : ℕ) → (client p d).held ≤ max_held
    few = r.ranges.held_ok

    begun : (g : ℕ) → seq_refusal q (Begin c g) ≡ 0 → k.stage ≡ 0 → Followed q (Begin c g) (moved p (Begin c g))
    unfolding move_of caller
    begun g e s =
        record {
          state = _;
          rule = begins e;
          related =
              same_slots acting m _ (grants_stay refl refl)
              (record {
                stage = refl;
                wants = λ _. refl;
                many = open_many (related.clients c) (rw s refl) ∙ omega arith;
                grants = λ h. open_grants (related.clients c) (rw s refl) h ∙ (sym (grants_of_keeps p c m r.shape here few refl refl h) ∙ omega arith);
              }) (counters_view p c m r tt);
        }
      where
        m : Move
        m = begin_move k g

    stepped : seq_refusal q (Step c) ≡ 0 → k.stage ≢ 0 → Edge p c (move_of p (Step c)) → Followed q (Step c) (moved p (Step c))
    unfolding caller
    stepped e busy w = let s = simulated acting busy w in record { state = _; rule = steps e s.rule; related = s.related }

    -- the last grant goes to the place of the one that ends
    released : (g : ℕ) → seq_refusal q (Release c g) ≡ 0 → k.stage ≡ 0 → grant_of p c g ≢ none → Followed q (Release c g) (moved p (Release c g))
    unfolding move_of caller release_move
    released g e s z = by_test Ends (λ t. absurd (omega (arith, two, eqb-true n evicted t))) (λ _. ended)
      where
        i : ℕ
        i = grant_of p c g

        f : ℕ
        f = grant_frame p c i

        n : ℕ
        n = pins p f

        Ends : Move → Type 0
        Ends m = Followed q (Release c g) (outcome_of p c m)

        m : Move
        m = completes g (holding k (k.held - 1)) (End i (k.held - 1)) (PutPins f (n - 1))

        found : (i < k.held) × (grant_page p c i ≡ g)
        found = grant_of_found p c g z

        two : pinned 1 ≤ n
        two = grant_pinned p r c i (r.mapping.grant_named c i found.0)

        some : times g t.grants ≢ 0
        some w = omega (arith, open_grants (related.clients c) (rw s refl) g, granted p c g z)

        fewer : (h : ℕ) → times h (without g t.grants) ≡ grants_of (apply p c m) c h
        fewer h =
            let now = grants_of_ends p c m r.shape here few i refl refl found.0 h in
            omega (arith, without_times g h t.grants some, open_grants (related.clients c) (rw s refl) h, ap (λ (x : ℕ). one (eqb x h)) found.1)

        ended : Ends m
        ended =
            record {
              state = _;
              rule = releases e;
              related =
                  same_slots acting m _ (grant_ends i refl refl found.0)
                  (related_resting s (omega (arith, without_length g t.grants some, open_many (related.clients c) (rw s refl))) fewer)
                  (pins_view p c m r f (n - 1) refl (pins_in p f (λ w. omega (arith, two)))
                  (inl (ne_eqb (n - 1) evicted (λ w. omega (arith, two)) ∙ sym (ne_eqb n evicted (λ w. omega (arith, two))))));
            }

  -- ---- so each call is followed

  made : (x : Call) → refusal p x ≡ 0 → Followed q x (moved p x)
  unfolding caller
  made x e = go x (allowed p x e) (sym (refusal_alike x) ∙ e) (call_edge p x r e).1
    where
      go : (x : Call) → Allowed p x → seq_refusal q x ≡ 0 → Edge p (caller x) (move_of p x) → Followed q x (moved p x)
      go (Begin c g) a n w = begun c a.here g n (may_begin p (client p c) c g a.may).0
      go (Step c) a n w = stepped c a.here n (may_step p (client p c) c a.may) w
      go (Release c g) a n w = let s = may_release p (client p c) c g a.may in released c a.here g n s.0 s.1

  pub followed : (x : Call) → Followed q x (call_of p x)
  followed x =
      by_refusal p x (Followed q x) r (made x)
      (λ n e z. record { state = q; rule = turns_down (sym (refusal_alike x) ∙ e) z; related = related })
