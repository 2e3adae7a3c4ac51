-- What a step tells, by what its stage writes: only 17 and 22 take a frame's content elsewhere. Assumes nothing.
use mathlib.Core.Path.{◌≡◌, refl, sym, ap, ◌∙◌}
use mathlib.Core.Logic.{◌≢◌}
use mathlib.Core.Bool.{Bool, true, false, true≢false}
use Prim.Native.Nat.{ℕ, ◌<◌, ◌≤◌}
use native.Mathlib.Omega.{arith}
use native.Mathlib.Decide.{ℕ_discrete}
use lib.Dec.{T}
use borrow.Author.Tests.{eq-eqb, ne_eqb, lt-ltb}
use Rattle.pool.specs.Limits.{max_frames}
use Rattle.pool.specs.Choose.{choose}
use Rattle.pool.specs.State.{none, total, page, entry_frame, client}
use Rattle.pool.specs.Table.{lookup}
use Rattle.pool.specs.Calls.{caller, turned_by, move_of}
use Rattle.pool.specs.declared.Answer.TheVariants.{Refused}
use Rattle.pool.specs.declared.Call.{Call}
use Rattle.pool.specs.declared.Call.TheVariants.{Step}
use Rattle.pool.specs.declared.Client.{Client}
use Rattle.pool.specs.declared.Move.{Move}
use Rattle.pool.specs.declared.Pool.{Pool}
use Rattle.pool.specs.declared.Write.{Write}
use Rattle.pool.specs.declared.Write.TheVariants.{Keep, PutSlot, PutPins, PutCount, TakeFrame, PutEntry, PutHand, PutFree}
use Rattle.laws.specs.Choices.{by_test, chosen, passed}
use Rattle.laws.specs.Scans.{both_true}
use Rattle.ranges.specs.Ranges.{Ranged, ClientRanged, ranged}
use Rattle.invariant.proofs.StageTests.{differ}
use Rattle.memory.specs.Memory.{is_frame}
use Rattle.memory.specs.Orders.{order_none}
use Rattle.memory.specs.Requests.{Asks, State, Result, in_order, outside_at, refused, call_on}
use Rattle.content.specs.Effects.{replaced_in, replaced_of}
use Rattle.contents.proofs.Ways.{apart}
use Rattle.mixed.proofs.StageWrites.{Puts, refuses, keeps, takes, removes, admits, remaps, stage_does}
use Rattle.play.specs.Turn.{is_client}
use Rattle.checked.specs.Ways.{Wrote, answers, nothing, move_wrote}
use Rattle.in_place.specs.Held.{duty_word, duty_at, duty_of, duty_on, Held, held_of, acted, held_on}
use Rattle.held_claims.specs.HeldClaims.{Tells, ClaimDuty, ClaimNoDuty}
use Rattle.held_claims.proofs.Same.{checked, same_call, valid_pool, on_held, away, acts}

-- what a write that leaves bytes and marks alone tells
quiet : (e : ℕ) (w : Write) → T (apart w) → duty_of e w ≡ 0
unfolding duty_of apart
quiet e Keep t = refl
quiet e (PutSlot i f) t = refl
quiet e (PutPins f n) t = refl
quiet e (PutCount f n) t = refl
quiet e (TakeFrame f g n y) t = refl
quiet e (PutEntry i g f) t = absurd t
quiet e (PutHand h) t = refl
quiet e (PutFree n) t = refl

-- a frame's content goes back, moves, or there is none
goes_back : (g e : ℕ) → e < max_frames → duty_at g e none ≡ duty_word 1 e g
unfolding duty_at is_frame
goes_back g e h = chosen _ _ _ (lt-ltb _ _ h) ∙ chosen _ _ _ (eq-eqb none none refl)

goes_over : (g e f : ℕ) → e < max_frames → f < max_frames → duty_at g e f ≡ duty_word 2 e f
unfolding duty_at is_frame
goes_over g e f h l =
    chosen _ _ _ (lt-ltb _ _ h) ∙ passed _ _ _ (ne_eqb f none (λ z. let y : ⊥ = omega (arith, z, l) in y)) ∙ chosen _ _ _ (lt-ltb _ _ l)

none_goes : (g f : ℕ) → duty_at g none f ≡ 0
unfolding duty_at is_frame choose
none_goes g f = refl

step_puts : (p : Pool) (c : ℕ) → Puts p (client p c) (move_of p (Step c))
unfolding move_of
step_puts p c = (stage_does p (client p c)).puts

module _ (x : State) (c : ℕ) (z : (call_on x (Asks (Step c))).answer ≢ Refused 8) where
  abbrev p : Pool
  p = x.pool

  abbrev k : Client
  k = client p c

  of_write : (w : Write) → (held_of p x.memory.pages (Step c)).write ≡ w → duty_on x c ≡ duty_of (replaced_of p w) w
  unfolding duty_on
  of_write w e = chosen _ _ _ (both_true _ _ (checked x (Asks (Step c)) z)).1 ∙ ap (λ (v : Write). duty_of (replaced_of p v) v) e

  r : Ranged p
  r = ranged p (valid_pool x (Step c) z)

  few_frames : total p ≤ max_frames
  few_frames = omega (arith, r.numbers.slots, r.numbers.clients)

  -- what the call answers is what its move does
  abbrev n : ℕ
  n = in_order (turned_by p (Step c)) (outside_at x.memory.pages (Step c))

  answer_is : {h : Held} → held_of p x.memory.pages (Step c) ≡ h → (call_on x (Asks (Step c))).answer ≡ h.answer
  answer_is e =
      ap (λ (o : Result). o.answer) (sym (same_call x (Step c) z) ∙ on_held x (Step c) z) ∙ ap (λ (h : Held). h.answer) e

  abbrev Told : Type 0
  Told = refused (call_on x (Asks (Step c))).answer ≡ false → Tells x k (duty_on x c)

  -- turned down, it is refused
  turned : n ≢ 0 → Told
  unfolding refused
  turned w f = absurd (true≢false (sym (ap refused (answer_is (away x (Step c) z w))) ∙ f))

  module _ (e : n ≡ 0) where
    moved : held_of p x.memory.pages (Step c) ≡ acted p (Step c)
    moved = acts x (Step c) z e

    abbrev w : Write
    w = (move_of p (Step c)).write

    tells : (v : Write) → w ≡ v → duty_on x c ≡ duty_of (replaced_of p v) v
    tells v f = of_write v (ap (λ (h : Held). h.write) moved ∙ f)

    -- a client that acts is one of the pool's, and its frames are frames of the pool
    its : ClientRanged p c
    unfolding caller
    its = r.client c (is_client p (Step c) (order_none (turned_by p (Step c)) (outside_at x.memory.pages (Step c)) e).0)

    by_puts : refused (move_of p (Step c)).answer ≡ false → Puts p k (move_of p (Step c)) → Tells x k (duty_on x c)
    unfolding duty_of replaced_in entry_frame lookup
    by_puts f (refuses t _) = absurd (true≢false (sym t ∙ f))
    by_puts f (keeps t els) =
        record {
          writes_back = λ a. absurd (els.not_17 a.0 a.1);
          moves = λ a. absurd (els.not_22 a.0 a.1);
          nothing = λ _ _. tells w refl ∙ quiet (replaced_of p w) w t;
        }
    by_puts f (takes a v) =
        record {
          writes_back = λ b. absurd (differ 4 17 tt (sym a ∙ b.0));
          moves = λ b. absurd (differ 4 22 tt (sym a ∙ b.0));
          nothing = λ _ _. tells _ v;
        }
    by_puts f (removes a b v) =
        record {
          writes_back = λ _. tells _ v ∙ ap (λ (f : ℕ). duty_at (page p k.victim) f none) b
              ∙ goes_back (page p k.victim) k.victim (omega (arith, its.victim.there (rw a refl), few_frames));
          moves = λ d. absurd (differ 17 22 tt (sym a ∙ d.0));
          nothing = λ d _. absurd (d (a, b));
        }
    by_puts f (admits a i b v) =
        record {
          writes_back = λ d. absurd (differ 18 17 tt (sym a ∙ d.0));
          moves = λ d. absurd (differ 18 22 tt (sym a ∙ d.0));
          nothing = λ _ _. tells _ v ∙ ap (λ (f : ℕ). duty_at k.page f k.own) b ∙ none_goes k.page k.own;
        }
    by_puts f (remaps a b v) =
        record {
          writes_back = λ d. absurd (differ 22 17 tt (sym a ∙ d.0));
          moves = λ _. tells _ v ∙ ap (λ (f : ℕ). duty_at k.page f k.own) b
              ∙ goes_over k.page k.found k.own (omega (arith, its.found.there (rw a refl), few_frames))
              (omega (arith, its.own.there (rw a refl), few_frames));
          nothing = λ _ d. absurd (d (a, b));
        }

    goes : Told
    goes f = by_puts (sym (ap refused (answer_is moved)) ∙ f) (step_puts p c)

  told : Told
  told = go (ℕ_discrete n 0)
    where
      go : Dec (n ≡ 0) → Told
      go (yes e) = goes e
      go (no w) = turned w

pub duty : ClaimDuty
unfolding refused
duty x c f = told x c (λ e. true≢false (sym (ap refused e) ∙ f)) f

-- ---- a refused step

-- what a call that is refused wrote
keeps_off : (p : Pool) (n : ℕ) (call : Call) → refused (held_of p n call).answer ≡ true → (held_of p n call).write ≡ Keep
unfolding held_of
keeps_off p n call =
    by_test (λ (h : Held). refused h.answer ≡ true → h.write ≡ Keep) (λ _. by_move (move_wrote p call)) (λ _ _. refl)
  where
    by_move : {m : Move} → Wrote m → refused m.answer ≡ true → m.write ≡ Keep
    by_move (answers f) e = absurd (true≢false (sym e ∙ f))
    by_move (nothing f) e = f

-- the answer and the duty hang on one test of the store
both_ways : (t : Bool) (a b : Result) (d : ℕ) → (refused a.answer ≡ true → d ≡ 0) → refused (choose t a b).answer ≡ true → choose t d 0 ≡ 0
unfolding choose
both_ways true a b d h e = h e
both_ways false a b d h e = refl

pub no_duty : ClaimNoDuty
unfolding held_on duty_on duty_of
no_duty x c =
    let n = x.memory.pages in
    both_ways _ _ _ _ (λ e. ap (λ (w : Write). duty_of (replaced_of x.pool w) w) (keeps_off x.pool n (Step c) e))
