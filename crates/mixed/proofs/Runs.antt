-- The claims of a list from a state that is kept and whose pool was set up: each is that of the calls in the list (`Lists`), brought over
-- (`Transported`), or holds of every kept state. Assumes nothing.
use mathlib.Core.Path.{◌≡◌, sym, ap, subst, ◌∙◌}
use mathlib.Core.Bool.{true, true≢false}
use mathlib.Core.List.{List, [], ◌∷◌}
use Prim.Native.Nat.{ℕ, zero, suc, ◌+◌, ◌<◌}
use native.Mathlib.Omega.{arith}
use lib.ListN.{replicate}
use borrow.Author.Tests.{eq-eqb}
use Rattle.pool.specs.Choose.{either}
use Rattle.pool.specs.State.{client, number_of_clients, total}
use Rattle.pool.specs.Frames.{free_frame}
use Rattle.pool.specs.Tallies.{zero_tally}
use Rattle.pool.specs.Calls.{SetUp, call_of}
use Rattle.pool.specs.declared.Pool.{Pool}
use Rattle.pool.specs.declared.Call.{Call}
use Rattle.pool.specs.declared.Call.TheVariants.{Begin, Step}
use Rattle.pool.specs.declared.Answer.TheVariants.{Done}
use Rattle.pool.specs.declared.Outcome.{Outcome}
use Rattle.laws.specs.Choices.{chosen}
use Rattle.invariant.proofs.Valid.{valid_reached}
use Rattle.guarantee.specs.Runs.{Event, events, At, along, GrantedTo}
use Rattle.guarantee.specs.BusySweep.{BusySweep}
use Rattle.guarantee.specs.Progress.{AcceptedStep, Answers, GetsThrough}
use Rattle.guarantee.specs.Claims.{OneEach, OneCopy, HeldPinned, FewPins, tally_of, CountsPages, AddsUp, GrantedWithin, WithinLimits, Lasts}
use Rattle.guarantee.proofs.TurnedDown.{same_answer, same_pool, other_answer, other_call}
use Rattle.guarantee.proofs.Frames.{held_pinned}
use Rattle.guarantee.proofs.Copies.{one_each, one_copy}
use Rattle.guarantee.proofs.Drops.{none_counted, call_counts}
use Rattle.guarantee.proofs.Sequence.{start_related}
use Rattle.guarantee.proofs.Guaranteed.{finds_frame, guarantee}
use Rattle.memory.specs.Requests.{Request, Asks, ReadByte, WriteByte, State, Result, inside, call_on}
use Rattle.memory.specs.Happenings.{Happening, happenings, state_after}
use Rattle.contents.proofs.Kept.{Kept}
use Rattle.contents.proofs.CallsNext.{kept_call}
use Rattle.mixed.specs.Mixed.{of_call, amid, IsByte, Point3On, ListedOn, Passes8, AnsweredOn, tally_on, GrantedWithinOn, WithinLimitsOn, outcome_on, AsBefore}
use Rattle.mixed.proofs.Passes.{bytes_yes, store_yes, turned_away}
use Rattle.mixed.proofs.Calls.{same, turned16, as_call, byte_leaves, same_length}
use Rattle.mixed.proofs.Embedded.{tally_same}
use Rattle.mixed.proofs.Transported.{grants_in, no_held_evicted_in, taken_out_once_in, one_effect_in, refused_alone_in, lasts_in, busy_sweep_in}
use Rattle.mixed.proofs.Transported.{gets_through_in}
use Rattle.mixed.proofs.Lists.{Erased, erased, throughout_on, kept_after, bytes_apart, follows_on}
use Rattle.mixed.proofs.Answers.{listed_now}

-- ---- point 3, refusal 15 in company, how long a page stays, the tally's sum

module _ (x : State) (k : Kept x) (u : SetUp x.pool) (rs : List Request) where
  inner : Erased x rs
  inner = erased x k rs

  pub point3_from : Point3On x rs
  point3_from =
      let base = guarantee.point3 x.pool u inner.calls in
      let s = inner.embedded in
      record {
        grants = grants_in s base.grants;
        one_each = throughout_on (λ y. OneEach y.pool) (λ y j. one_each y.pool j.reached) x k rs;
        one_copy = throughout_on (λ y. OneCopy y.pool) (λ y j. one_copy y.pool j.reached) x k rs;
        no_held_evicted = no_held_evicted_in s base.no_held_evicted;
        held_pinned = throughout_on (λ y. HeldPinned y.pool) (λ y j. held_pinned y.pool j.reached) x k rs;
        few_pins = throughout_on (λ y. FewPins y.pool) (λ y j. j.reached.ranges.pins_ok) x k rs;
        taken_out_once = taken_out_once_in s base.taken_out_once;
        sequential = follows_on x k _ (start_related u) rs;
        one_effect = one_effect_in s base.one_effect;
        refused_alone = refused_alone_in s base.refused_alone;
        bytes_apart = bytes_apart x rs;
      }

  pub busy_sweep_from : BusySweep x.pool.size (amid (happenings x rs))
  busy_sweep_from = busy_sweep_in inner.embedded x.pool.size (guarantee.busy_sweep x.pool u inner.calls)

  pub lasts_from : Lasts (amid (happenings x rs))
  lasts_from = lasts_in inner.embedded (guarantee.lasts x.pool u inner.calls)

  pub gets_through_from : let run = amid (happenings x rs) in
      GetsThrough x.pool.size (number_of_clients x.pool) x.pool.cap (run AcceptedStep) (run Answers)
  gets_through_from =
      let h = k.reached.shape in
      let b = guarantee.bounds x.pool.size (number_of_clients x.pool) x.pool.cap h.size_low h.clients_low h.cap_low in
      gets_through_in inner.embedded _ _ _ (omega (arith, b.0)) (guarantee.progress x.pool u inner.calls)

  pub sum_from : AddsUp (state_after x rs).pool (tally_on zero_tally (happenings x rs))
  sum_from =
      let t : tally_on zero_tally (happenings x rs) ≡ tally_of zero_tally (events x.pool inner.calls) = tally_same inner.embedded zero_tally in
      subst (AddsUp (state_after x rs).pool) (sym t)
      (subst (λ (p : Pool). AddsUp p (tally_of zero_tally (events x.pool inner.calls))) (sym inner.after)
      (guarantee.sum x.pool u inner.calls))

-- ---- pages that came and left

module _ (x : State) (k : Kept x) where
  abbrev Counts : Result → Type 0
  Counts o = CountsPages x.pool o.counted o.state.pool

  leaves_pages : (r : Request) → IsByte r → Counts (call_on x r)
  leaves_pages r b = let e = byte_leaves x r b in rw (e.0, e.1) (none_counted x.pool)

  pub counts_pages : (r : Request) → Counts (call_on x r)
  unfolding IsByte
  counts_pages (Asks call) =
      elim (as_call x call (turned_away x k (Asks call))) [
        | same e ↦ subst (λ (o : Outcome). CountsPages x.pool o.counted o.pool) (sym e) (call_counts x.pool call k.reached)
        | turned16 _ _ _ _ e ↦ subst Counts (sym e) (none_counted x.pool)
      ]
  counts_pages (ReadByte c g o) = leaves_pages (ReadByte c g o) tt
  counts_pages (WriteByte c g o v) = leaves_pages (WriteByte c g o v) tt

-- ---- answers

listed_in : (x : State) → Kept x → (rs : List Request) (n : ℕ) (h : Happening) → At (λ y. y ≡ h) (happenings x rs) n
    → ListedOn h.before.pool h.asked h.answer
unfolding happenings At
listed_in x k [] n h a = absurd a
listed_in x k (r ∷ rs) zero h a = subst (λ (h : Happening). ListedOn h.before.pool h.asked h.answer) a (listed_now x k r)
listed_in x k (r ∷ rs) (suc n) h a = listed_in (call_on x r).state (kept_call x k r) rs n h a

pub answers_from : (x : State) → Kept x → (rs : List Request) → AnsweredOn x rs
answers_from x k rs =
    record {
      in_range = throughout_on Passes8 (λ y j. (valid_reached y.pool j.reached, bytes_yes y j, store_yes y j)) x k rs;
      finds = throughout_on (λ y. (c : ℕ) → (client y.pool c).stage ≡ 4 → free_frame y.pool < total y.pool)
          (λ y j. finds_frame y.pool j.reached) x k rs;
      listed = listed_in x k rs;
    }

-- ---- the limits of steps

-- a step is what it is of the pool alone, and so are some of one client
step_same : (x : State) → Kept x → (c : ℕ) → outcome_on (call_on x (Asks (Step c))) ≡ call_of x.pool (Step c)
step_same x k c = elim (as_call x (Step c) (turned_away x k (Asks (Step c)))) [ same o ↦ o | turned16 d g w _ _ ↦ other_call w tt ]

steps_same : (P : Event → Type 0) (b n i : ℕ) (x : State) → Kept x → along (events x.pool (replicate n (Step b))) P i
    → amid (happenings x (replicate n (Asks (Step b)))) P i
unfolding happenings events At of_call
steps_same P b zero i x k a = absurd a
steps_same P b (suc n) zero x k a =
    subst P (ap (λ (o : Outcome). record { before = x.pool; asked = Step b; answer = o.answer; counted = o.counted; next = o.pool })
    (sym (step_same x k b))) a
steps_same P b (suc n) (suc i) x k a =
    steps_same P b n i (call_on x (Asks (Step b))).state (kept_call x k (Asks (Step b)))
    (subst (λ (p : Pool). At P (events p (replicate n (Step b))) i) (sym (same_pool (step_same x k b))) a)

within_on : (x : State) → Kept x → (b n : ℕ) {p : Pool} → p ≡ x.pool → GrantedWithin p b n → GrantedWithinOn x b n
within_on x k b n e w = let (i, l, a) = subst (λ (p : Pool). GrantedWithin p b n) e w in (i, l, steps_same (GrantedTo b) b (suc i) i x k a)

pub limits_from : (x : State) → Kept x → SetUp x.pool → (rs : List Request) (b g : ℕ)
    → let now = state_after x rs in
    ((d : ℕ) → (client now.pool d).stage ≡ 0) → (call_on now (Asks (Begin b g))).answer ≡ Done g → WithinLimitsOn now x.pool.size b g
limits_from x k u rs b g rest done =
    ((λ w. within_on y ky b 3 begun (base.0 w)), (λ w i l z. within_on y ky b (x.pool.size + 7) begun (base.1 w i l z)))
  where
    now : State
    now = state_after x rs

    y : State
    y = (call_on now (Asks (Begin b g))).state

    ky : Kept y
    ky = kept_call now (kept_after x k rs) (Asks (Begin b g))

    -- a begin that is done was not turned down by 16
    outcome : outcome_on (call_on now (Asks (Begin b g))) ≡ call_of now.pool (Begin b g)
    outcome =
        elim (as_call now (Begin b g) (turned_away now (kept_after x k rs) (Asks (Begin b g)))) [
          | same o ↦ o
          | turned16 c h _ _ t ↦ other_answer (ap (λ (o : Result). o.answer) (sym t) ∙ done) tt
        ]

    begun : (call_of now.pool (Begin b g)).pool ≡ y.pool
    begun = sym (same_pool outcome)

    Limited : Pool → Type 0
    Limited p = ((d : ℕ) → (client p d).stage ≡ 0) → (call_of p (Begin b g)).answer ≡ Done g → WithinLimits p x.pool.size b g

    base : WithinLimits now.pool x.pool.size b g
    base =
        let e = erased x k rs in
        subst Limited (sym e.after) (guarantee.limits x.pool u e.calls b g) rest (sym (same_answer outcome) ∙ done)

-- ---- without a store

-- every page is inside, so 16 turns no begin down
all_inside : (n g : ℕ) → n ≡ 0 → inside n g ≡ true
unfolding inside either
all_inside n g e = chosen _ _ _ (eq-eqb n 0 e)

pub as_before_from : (x : State) → Kept x → x.memory.pages ≡ 0 → (calls : List Call) → AsBefore x calls
unfolding AsBefore
as_before_from x k e [] = tt
as_before_from x k e (call ∷ calls) = (
  elim (as_call x call (turned_away x k (Asks call))) [ same o ↦ o | turned16 c g _ out _ ↦ absurd (true≢false (sym (all_inside _ g e) ∙ out)) ],
  as_before_from (call_on x (Asks call)).state (kept_call x k (Asks call)) ((same_length x (Asks call)).0 ∙ e) calls,
)
