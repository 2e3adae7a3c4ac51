-- What each stage's move is to the counts, of every pool: it leaves them, raises that of the found frame, lowers that of the victim, or gives the frame
-- that it takes its first one; and only a 13 leads to 14, with a victim whose count is 0 then. One line for each stage. Assumes nothing.
use mathlib.Core.Path.{◌≡◌, refl}
use mathlib.Core.Logic.{◌≢◌}
use mathlib.Core.Bool.{Bool, not}
use Prim.Native.Nat.{ℕ, ◌-◌}
use native.Mathlib.Omega.{arith}
use lib.Dec.{T, eqb}
use borrow.Author.Tests.{eqb-true}
use Rattle.pool.specs.Choose.{choose}
use Rattle.pool.specs.State.{pinned, count, client}
use Rattle.pool.specs.Moves.{stuck, granted}
use Rattle.pool.specs.Apply.{counts_after}
use Rattle.pool.specs.Stages.{raised, busy_visit, evict_own, Stage, no_stage, stages, stage_move, stage1, stage2, stage3, stage4, stage5, stage6, stage7}
use Rattle.pool.specs.Stages.{stage8, stage9, stage10, stage11, stage12, stage13, stage14, stage15, stage16, stage17, stage18, stage19, stage20, stage21}
use Rattle.pool.specs.Stages.{stage22, stage23}
use Rattle.pool.specs.Calls.{caller, refusal, release_move, move_of}
use Rattle.pool.specs.declared.Pool.{Pool}
use Rattle.pool.specs.declared.Client.{Client}
use Rattle.pool.specs.declared.Move.{Move}
use Rattle.pool.specs.declared.Call.{Call}
use Rattle.pool.specs.declared.Call.TheVariants.{Begin, Step, Release}
use Rattle.pool.specs.declared.Counted.{Counted}
use Rattle.pool.specs.declared.Write.TheVariants.{PutCount, TakeFrame, PutEntry}
use Rattle.laws.specs.Choices.{by_test}
use Rattle.laws.specs.Each.{Each, fin, ◌also◌, each_in}
use Rattle.invariant.proofs.Reached.{Reached}
use Rattle.invariant.proofs.StageTests.{differ}
use Rattle.invariant.proofs.After.{CountsStay}
use Rattle.invariant.proofs.Allowed.{allowed, may_release}

pub data CountMove (p : Pool) (k : Client) (m : Move) : Type 0 where
  keeps : CountsStay p m.write → m.next.stage ≢ 14 → CountMove p k m
  raises : {f : ℕ} → m.write ≡ PutCount f (raised p.cap (count p f)) → m.next.stage ≢ 14 → CountMove p k m
  lowers : k.stage ≡ 13 → m.write ≡ PutCount k.victim (count p k.victim - 1)
      → (m.next.stage ≡ 14 → (m.next.victim ≡ k.victim) × (count p k.victim - 1 ≡ 0)) → CountMove p k m
  starts : {n : ℕ} → k.stage ≡ 4 → m.write ≡ TakeFrame m.next.own k.page (pinned 1) n → m.next.stage ≢ 14 → CountMove p k m

abbrev CountMoveAt : ℕ → Stage → Type 0
CountMoveAt i f = (p : Pool) (k : Client) → k.stage ≡ i → CountMove p k (f p k)

module _ {p : Pool} {k : Client} where
  off : {m : Move} → CountsStay p m.write → T (not (eqb m.next.stage 14)) → CountMove p k m
  off {m} w t = keeps w (differ m.next.stage 14 t)

  fork : (t : Bool) {x y : Move} → CountMove p k x → CountMove p k y → CountMove p k (choose t x y)
  fork t a b = by_test (CountMove p k) (λ _. a) (λ _. b)

  stays : (i : ℕ) → k.stage ≡ i → T (not (eqb i 14)) → CountMove p k (stuck k)
  unfolding counts_after
  stays i e t = off {m = stuck k} refl (rw e t)

  -- a grant raises the count of the frame that was found, or puts an entry
  raised_by : (i : ℕ) (u : Counted) → k.stage ≡ i → T (not (eqb i 14))
      → CountMove p k (granted k k.found (PutCount k.found (raised p.cap (count p k.found))) u)
  unfolding granted
  raised_by i u e t = fork _ (raises refl (differ 0 14 tt)) (stays i e t)

  entered_by : (i j g f : ℕ) (u : Counted) → k.stage ≡ i → T (not (eqb i 14)) → CountMove p k (granted k k.own (PutEntry j g f) u)
  unfolding granted counts_after
  entered_by i j g f u e t = fork _ (off refl tt) (stays i e t)

  visit : (size : ℕ) → CountMove p k (busy_visit k size)
  unfolding busy_visit counts_after
  visit size = fork _ (off refl tt) (off refl tt)

  evicts : (n j : ℕ) → T (not (eqb j 14)) → CountMove p k (evict_own k n j)
  unfolding evict_own counts_after
  evicts n j t = fork _ (off refl t) (off refl t)

count_moves : Each CountMoveAt 0 stages
unfolding stage1 stage2 stage3 stage4 stage5 stage6 stage7 stage8 stage9 stage10 stage11 stage12 stage13 stage14 stage15 stage16 stage17 stage18 stage19
    stage20 stage21 stage22 stage23 counts_after
count_moves =
    (λ p k e. stays 0 e tt)
    also (λ p k e. fork _ (off refl tt) (off refl tt))
    also (λ p k e. fork _ (off refl tt) (off refl tt))
    also (λ p k e. raised_by 3 _ e tt)
    also (λ p k e. fork _ (stays 4 e tt) (starts e refl (differ 5 14 tt)))
    also (λ p k e. fork _ (off refl tt) (off refl tt))
    also (λ p k e. fork _ (fork _ (stays 6 e tt) (off refl tt)) (off refl tt))
    also (λ p k e. off refl tt)
    also (λ p k e. fork _ (off refl tt) (off refl tt))
    also (λ p k e. off refl tt)
    also (λ p k e. off refl tt)
    also (λ p k e. fork _ (visit _) (off refl tt))
    also (λ p k e. fork _ (off refl tt) (fork _ (off refl tt) (visit _)))
    also (λ p k e.
    by_test (CountMove p k) (λ t. lowers e refl (λ _. (refl, eqb-true _ _ t))) (λ _. lowers e refl (λ s. absurd (differ 11 14 tt s))))
    also (λ p k e. fork _ (off refl tt) (off refl tt))
    also (λ p k e. fork _ (off refl tt) (off refl tt))
    also (λ p k e. off refl tt)
    also (λ p k e. fork _ (off refl tt) (off refl tt))
    also (λ p k e. fork _ (fork _ (stays 18 e tt) (entered_by 18 _ _ _ _ e tt)) (off refl tt))
    also (λ p k e. fork _ (off refl tt) (off refl tt))
    also (λ p k e. evicts _ 21 tt)
    also (λ p k e. raised_by 21 _ e tt)
    also (λ p k e. fork _ (entered_by 22 _ _ _ _ e tt) (off refl tt))
    also (λ p k e. evicts _ 4 tt)
    also fin

-- of every call that no check turns down
pub count_move : (p : Pool) (x : Call) → Reached p → refusal p x ≡ 0 → CountMove p (client p (caller x)) (move_of p x)
unfolding caller move_of stage_move release_move counts_after
count_move p (Begin c g) r e = off refl tt
count_move p (Step c) r e = each_in CountMoveAt no_stage stages count_moves (client p c).stage (omega (arith, r.ranges.stage_ok c)) p (client p c) refl
count_move p (Release c g) r e =
    let s = (may_release p (client p c) c g (allowed p (Release c g) e).may).0 in fork _ (stays 0 s tt) (off refl (rw s tt))
