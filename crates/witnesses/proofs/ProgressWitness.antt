-- The claim that somebody gets through is not empty, and its number not far too large: in a pool of one slot, one client and counts up to 1 a run has as
-- many accepted steps as it asks for, 31; and no number below 12 would do there, since 11 accepted steps lead to no answer. In another run a removal at
-- 17 sends a client from 22 to 23, which the published argument leaves out (docs/GUARANTEE.md). All are computed. Assumes nothing.
use mathlib.Core.Path.{◌≡◌, refl, sym, ap, ◌∙◌}
use mathlib.Core.Bool.{Bool, true, false, true≢false}
use mathlib.Core.List.{List, [], ◌∷◌, ◌++◌, map}
use Prim.Native.Nat.{ℕ, zero, suc, ◌+◌}
use native.Mathlib.Omega.{arith}
use lib.Dec.{eqb, ltb}
use lib.ListN.{get_or, replicate}
use borrow.Author.Tests.{ltb-true, eqb-true}
use Rattle.pool.specs.Answers.{refusal_of}
use Rattle.pool.specs.Choose.{choose, scan, every}
use Rattle.pool.specs.Calls.{setup_of, pool_after}
use Rattle.pool.specs.Cases.{steps, admit_and_release}
use Rattle.pool.specs.declared.Call.{Call}
use Rattle.pool.specs.declared.Call.TheVariants.{Begin, Step, Release}
use Rattle.pool.specs.declared.Answer.{Answer}
use Rattle.pool.specs.declared.Answer.TheVariants.{Done, Working, Granted, Refused}
use Rattle.laws.specs.Scans.{every_at}
use Rattle.guarantee.specs.Runs.{Event, events, At, along, StepAt}
use Rattle.guarantee.specs.Progress.{step_bound, AcceptedStep, Places}
use Rattle.guarantee.proofs.TurnedDown.{other_answer}
use Rattle.witnesses.proofs.Witness.{computing}

-- ---- accepted steps, by a test

abbrev accepts : Call → Answer → Bool
accepts (Step c) (Working j) = true
accepts (Step c) (Granted f) = true
accepts (Step c) (Refused n) = eqb n 15
accepts (Step c) (Done n) = false
accepts (Begin c g) a = false
accepts (Release c g) a = false

abbrev tested : List Event → List Bool
tested es = map (λ (e : Event). accepts e.asked e.answer) es

is_accepted : (e : Event) (x : Call) (a : Answer) → e.asked ≡ x → e.answer ≡ a → accepts x a ≡ true → AcceptedStep e
unfolding refusal_of
is_accepted e (Step c) (Working j) q w t = (c, q, λ (n, r, _). other_answer (sym w ∙ r) tt)
is_accepted e (Step c) (Granted f) q w t = (c, q, λ (n, r, _). other_answer (sym w ∙ r) tt)
is_accepted e (Step c) (Refused m) q w t = (c, q, λ (n, r, z). z (ap refusal_of (sym r ∙ w) ∙ eqb-true m 15 t))
is_accepted e (Step c) (Done n) q w t = absurd (true≢false (sym t))
is_accepted e (Begin c g) a q w t = absurd (true≢false (sym t))
is_accepted e (Release c g) a q w t = absurd (true≢false (sym t))

accepted_at : (es : List Event) (n : ℕ) → get_or (tested es) n false ≡ true → At AcceptedStep es n
unfolding At
accepted_at [] n t = absurd (true≢false (sym t))
accepted_at (e ∷ es) zero t = is_accepted e e.asked e.answer refl refl t
accepted_at (e ∷ es) (suc n) t = accepted_at es n t

-- ---- one slot, one client: three requests, of 8, 12 and 12 steps

abbrev three : List Event
three = events (setup_of 1 1 1 0).pool (admit_and_release 9 ++ Begin 0 5 ∷ steps 0 12 ++ Release 0 5 ∷ Begin 0 9 ∷ steps 0 12)

abbrev kinds : List Bool
kinds = false ∷ replicate 8 true ++ false ∷ false ∷ replicate 12 true ++ false ∷ false ∷ replicate 12 true

three_kinds : tested three ≡ kinds
unfolding computing
three_kinds = refl

-- the i-th accepted step
abbrev nth : ℕ → ℕ
nth i = choose (ltb i 8) (i + 1) (choose (ltb i 20) (i + 3) (i + 5))

rises : every (λ i. ltb (nth i) (nth (suc i))) 30 ≡ true
unfolding choose scan
rises = refl

passes : every (λ i. get_or kinds (nth i) false) 31 ≡ true
unfolding choose scan
passes = refl

pub many : Places (along three AcceptedStep) (step_bound 1 1 1)
many =
    record {
      nth = nth;
      later = λ i l. ltb-true (nth i) (nth (suc i)) (every_at (λ i. ltb (nth i) (nth (suc i))) 30 rises i (omega arith));
      has = λ i l.
          accepted_at three (nth i)
          (ap (λ (t : List Bool). get_or t (nth i) false) three_kinds ∙ every_at (λ i. get_or kinds (nth i) false) 31 passes i (omega arith));
    }

-- the second of them: 11 steps lead to another stage, and the last is granted
pub eleven : map (λ (e : Event). e.answer) (events (pool_after (setup_of 1 1 1 0).pool (admit_and_release 9)) (Begin 0 5 ∷ steps 0 12))
    ≡ Done 5 ∷ map Working (4 ∷ 5 ∷ 10 ∷ 11 ∷ 12 ∷ 13 ∷ 14 ∷ 15 ∷ 16 ∷ 17 ∷ 18 ∷ []) ++ Granted 1 ∷ []
unfolding computing
eleven = refl

-- ---- two slots, two clients: client 0 evicts page 9 and stands at 17; client 1 wants page 9, finds its entry at 18 and its frame evicted at 19; client 0
-- removes the entry at event 46; at event 47 client 1 finds it gone

abbrev round_again : List Event
round_again =
    events (setup_of 2 2 3 0).pool
    (admit_and_release 9 ++ admit_and_release 5 ++ Begin 0 7 ∷ steps 0 10 ++ Begin 1 9 ∷ steps 1 14 ++ Step 0 ∷ Step 1 ∷ [])

pub removal : At (StepAt 0 17) round_again 46
unfolding computing
removal = (refl, refl)

pub sent_round : At (λ e. StepAt 1 22 e × (e.answer ≡ Working 23)) round_again 47
unfolding computing
sent_round = ((refl, refl), refl)
