-- What each stage's move is to a sweep, of every pool: it sees a frame in its slot, it is a busy visit, counted or refused, it starts the busy run anew,
-- or it leaves its client off the stages 11 and 12 and is not refused by 15. One line for each stage. Assumes nothing.
use mathlib.Core.Path.{◌≡◌, refl}
use mathlib.Core.Logic.{◌≢◌, ◌⊎◌, inl, inr}
use mathlib.Core.Bool.{Bool, not, ◌||◌}
use Prim.Native.Nat.{ℕ, ◌+◌, ◌≤◌, ◌<◌}
use native.Mathlib.Omega.{arith}
use lib.Dec.{T, eqb}
use borrow.Author.Tests.{eqb-true, eqb-false}
use Rattle.pool.specs.Choose.{choose}
use Rattle.pool.specs.Answers.{refusal_of}
use Rattle.pool.specs.State.{none, evicted, pinned, slot, pins}
use Rattle.pool.specs.Moves.{with_victim, sweeping, works, stuck, granted, refused15}
use Rattle.pool.specs.Stages.{around, busy_visit, evict_own, Stage, no_stage, stages, stage_move, stage1, stage2, stage3, stage4, stage5, stage6, stage7, stage8}
use Rattle.pool.specs.Stages.{stage9, stage10, stage11, stage12, stage13, stage14, stage15, stage16, stage17, stage18, stage19, stage20, stage21, stage22}
use Rattle.pool.specs.Stages.{stage23}
use Rattle.pool.specs.declared.Pool.{Pool}
use Rattle.pool.specs.declared.Client.{Client}
use Rattle.pool.specs.declared.Move.{Move}
use Rattle.pool.specs.declared.Counted.{Counted}
use Rattle.pool.specs.declared.Write.{Write}
use Rattle.pool.specs.declared.Write.TheVariants.{Keep}
use Rattle.laws.specs.Choices.{by_test}
use Rattle.laws.specs.Each.{Each, fin, ◌also◌, each_in}
use Rattle.invariant.proofs.StageTests.{differ}

-- the stages at which a slot is visited
abbrev pub visiting : ℕ → Bool
visiting i = eqb i 11 || eqb i 12

-- client k meets its slot busy
abbrev pub Busy : Pool → Client → Type 0
Busy p k = ((k.stage ≡ 11) × (slot p k.place ≡ none)) ⊎ ((k.stage ≡ 12) × (pinned 0 < pins p k.victim))

pub data SweepMove (p : Pool) (k : Client) : Move → Type 0 where
  sees : k.stage ≡ 11 → slot p k.place ≢ none → SweepMove p k (works (with_victim k (slot p k.place)) 12 Keep)
  counts : Busy p k → SweepMove p k (works (sweeping k k.start (around p.size k.place) (k.busy + 1)) 11 Keep)
  refuses : Busy p k → k.busy + 1 ≡ p.size → SweepMove p k (refused15 k)
  restarts : {start i : ℕ} {w : Write} → SweepMove p k (works (sweeping k start i 0) 11 w)
  leaves : {m : Move} → T (not (visiting m.next.stage)) → refusal_of m.answer ≢ 15 → SweepMove p k m

abbrev SweepMoveAt : ℕ → Stage → Type 0
SweepMoveAt i f = (p : Pool) (k : Client) → k.stage ≡ i → SweepMove p k (f p k)

module _ {p : Pool} {k : Client} where
  off : {m : Move} → T (not (visiting m.next.stage)) → T (not (eqb (refusal_of m.answer) 15)) → SweepMove p k m
  off {m} t u = leaves t (differ (refusal_of m.answer) 15 u)

  fork : (t : Bool) {x y : Move} → SweepMove p k x → SweepMove p k y → SweepMove p k (choose t x y)
  fork t a b = by_test (SweepMove p k) (λ _. a) (λ _. b)

  stays : (i : ℕ) → k.stage ≡ i → T (not (visiting i)) → SweepMove p k (stuck k)
  unfolding refusal_of
  stays i e t = off {m = stuck k} (rw e t) tt

  gets : (i f : ℕ) (w : Write) (u : Counted) → k.stage ≡ i → T (not (visiting i)) → SweepMove p k (granted k f w u)
  unfolding granted refusal_of
  gets i f w u e t = fork _ (off tt tt) (stays i e t)

  evicts : (n j : ℕ) → T (not (visiting j)) → SweepMove p k (evict_own k n j)
  unfolding evict_own refusal_of
  evicts n j t = fork _ (off t tt) (off t tt)

  visit : Busy p k → SweepMove p k (busy_visit k p.size)
  unfolding busy_visit
  visit b = by_test (SweepMove p k) (λ t. refuses b (eqb-true _ _ t)) (λ _. counts b)

  at11 : k.stage ≡ 11 → SweepMove p k (stage11 k (slot p k.place) p.size)
  unfolding stage11
  at11 e = by_test (SweepMove p k) (λ t. visit (inl (e, eqb-true _ _ t))) (λ t. sees e (eqb-false _ _ t))

  at12 : k.stage ≡ 12 → SweepMove p k (stage12 k (pins p k.victim) p.size)
  unfolding stage12 refusal_of
  at12 e =
      by_test (SweepMove p k) (λ _. off tt tt)
      (λ t. by_test (SweepMove p k) (λ _. off tt tt)
      (λ u. let x : pins p k.victim ≢ evicted = eqb-false _ _ t in let y : pins p k.victim ≢ pinned 0 = eqb-false _ _ u in visit (inr (e, omega arith))))

sweep_moves : Each SweepMoveAt 0 stages
unfolding refusal_of stage1 stage2 stage3 stage4 stage5 stage6 stage7 stage8 stage9 stage10 stage13 stage14 stage15 stage16 stage17 stage18 stage19 stage20
    stage21 stage22 stage23
sweep_moves =
    (λ p k e. stays 0 e tt)
    also (λ p k e. fork _ (off tt tt) (off tt tt))
    also (λ p k e. fork _ (off tt tt) (off tt tt))
    also (λ p k e. gets 3 _ _ _ e tt)
    also (λ p k e. fork _ (stays 4 e tt) (off tt tt))
    also (λ p k e. fork _ (off tt tt) (off tt tt))
    also (λ p k e. fork _ (fork _ (stays 6 e tt) (off tt tt)) (off tt tt))
    also (λ p k e. off tt tt)
    also (λ p k e. fork _ (off tt tt) (off tt tt))
    also (λ p k e. off tt tt)
    also (λ p k e. restarts)
    also (λ p k e. at11 e)
    also (λ p k e. at12 e)
    also (λ p k e. fork _ (off tt tt) restarts)
    also (λ p k e. fork _ (off tt tt) restarts)
    also (λ p k e. fork _ (off tt tt) restarts)
    also (λ p k e. off tt tt)
    also (λ p k e. fork _ (off tt tt) (off tt tt))
    also (λ p k e. fork _ (fork _ (stays 18 e tt) (gets 18 _ _ _ e tt)) (off tt tt))
    also (λ p k e. fork _ (off tt tt) (off tt tt))
    also (λ p k e. evicts _ 21 tt)
    also (λ p k e. gets 21 _ _ _ e tt)
    also (λ p k e. fork _ (gets 22 _ _ _ e tt) (off tt tt))
    also (λ p k e. evicts _ 4 tt)
    also fin

pub sweep_move : (p : Pool) (k : Client) → k.stage ≤ 23 → SweepMove p k (stage_move p k)
unfolding stage_move
sweep_move p k h = each_in SweepMoveAt no_stage stages sweep_moves k.stage (omega arith) p k refl
