-- Each contract says that the call is the definition's, and a begin or a release counts nothing, so that leaving the tally alone is tallying it. A
-- list is a recursion over that, and what the guarantee claims of the definition's pools and events it claims of the code's. Assumes nothing.
use mathlib.Core.Logic.{◌≢◌}
use mathlib.Core.Path.{◌≡◌, refl, sym, ap, subst, ◌∙◌}
use mathlib.Core.Bool.{true}
use mathlib.Core.List.{List, [], ◌∷◌, ◌++◌}
use native.Mathlib.Omega.{arith}
use Prim.Native.Nat.{ℕ}
use lib.ListN.{length, drop}
use lib.Seq.{take-append_seam, drop-append_seam}
use borrow.Author.Tests.{eqb-true, eqb-false}
use Rattle.pool.specs.Valid.{valid}
use Rattle.pool.specs.Calls.{setup_of, move_of, release_move, finished, call_of, pool_after}
use Rattle.pool.specs.Tallies.{zero_tally, tallied}
use Rattle.pool.specs.Holdings.{rows_of, holdings_refusal, listed, holdings_of}
use Rattle.pool.specs.declared.Pool.{Pool}
use Rattle.pool.specs.declared.Row.{Row}
use Rattle.pool.specs.declared.Listed.{Listed}
use Rattle.pool.specs.declared.Tally.{Tally}
use Rattle.pool.specs.declared.Move.{Move}
use Rattle.pool.specs.declared.Outcome.{Outcome}
use Rattle.pool.specs.declared.Call.{Call}
use Rattle.pool.specs.declared.Call.TheVariants.{Begin, Step, Release}
use Rattle.pool.specs.declared.Answer.{Answer}
use Rattle.pool.specs.declared.Answer.TheVariants.{Done, Refused}
use Rattle.pool.specs.declared.Counted.TheVariants.{Nothing}
use Rattle.laws.specs.Choices.{by_test}
use Rattle.laws.specs.Setups.{made_fresh}
use Rattle.calls.specs.Refusals.{setup_refusals, begin_refusals, step_refusals, release_refusals}
use Rattle.calls.specs.Tallied.{stepped_of}
use Rattle.calls.specs.declared.Stepped.{Stepped}
use Rattle.step.specs.declared.Answered.{Answered}
use Rattle.guarantee.specs.Runs.{events, EndsRequest}
use Rattle.guarantee.specs.Progress.{Accepting, GetsThrough, StepAnswered}
use Rattle.guarantee.proofs.Progress.{same_places, of_numbers, steps_there, steps_back}
use Rattle.guarantee.specs.Claims.{tally_of}
use Rattle.guarantee.proofs.Guaranteed.{guarantee}
use Rattle.tie.specs.Promises.{HoldingsSays}
use Rattle.tie.specs.Ties.{Makes, begin, release, step_tallied, step_of, step, Plays, at_end, at_call}
use Rattle.tie.specs.Ties.{ClaimSetup, ClaimCall, ClaimList, Answerable, ClaimAnyTally, ClaimIsSetUp, ClaimPoint3, ClaimSum}
use Rattle.tie.specs.Ties.{ClaimProgress}
use Rattle.tie.specs.Ties.{Fills, Leaves, ListsHoldings, Tied}
use Rattle.tie.proofs.Kept.{unasked, kept}

-- ---- a call

-- an outcome that leaves the tally alone: bringing it up to date changes nothing
abbrev Quiet : Tally → Outcome → Type 0
Quiet t o = t ≡ tallied o.counted t

-- such is a call whose move counts nothing
quiet : (p : Pool) (x : Call) (t : Tally) → (move_of p x).counted ≡ Nothing → Quiet t (call_of p x)
unfolding call_of finished tallied
quiet p x t e = by_test (Quiet t) (λ _. by_test (Quiet t) (λ _. rw e refl) (λ _. refl)) (λ _. refl)

begin_quiet : (p : Pool) (c g : ℕ) (t : Tally) → Quiet t (call_of p (Begin c g))
unfolding move_of
begin_quiet p c g t = quiet p (Begin c g) t refl

release_quiet : (p : Pool) (c g : ℕ) (t : Tally) → Quiet t (call_of p (Release c g))
unfolding move_of release_move
release_quiet p c g t = quiet p (Release c g) t (by_test (λ (m : Move). m.counted ≡ Nothing) (λ _. refl) (λ _. refl))

call : ClaimCall
call p q t u x a (begin {c} {g} r l) = (ap (λ (o : Outcome). o.answer) l.0, ap (λ (o : Outcome). o.pool) l.0, begin_quiet p c g t)
call p q t u x a (release {c} {g} r l) = (ap (λ (o : Outcome). o.answer) l.0, ap (λ (o : Outcome). o.pool) l.0, release_quiet p c g t)
call p q t u x a (step_tallied r l) = (ap (λ (o : Stepped). o.answer) l.0, ap (λ (o : Stepped). o.pool) l.0, ap (λ (o : Stepped). o.tally) l.0)
call p q t u x a (step_of r l) = (ap (λ (o : Stepped). o.answer) l.0, ap (λ (o : Stepped). o.pool) l.0, ap (λ (o : Stepped). o.tally) l.0)
call p q t u x a (step r l) = (ap (λ (o : Answered). o.answer) l.0, ap (λ (o : Answered). o.pool) l.0, l.1)

any_tally : ClaimAnyTally
any_tally p q q' t t' u u' x a a' m n =
    let e = call p q t u x a m in
    let e' = call p q' t' u' x a' n in
    (e.0 ∙ sym e'.0, e.1 ∙ sym e'.1)

-- ---- a list of calls

list : ClaimList
unfolding events pool_after tally_of
list p q t u calls answers at_end = (refl, refl, refl)
list p q t u calls answers (at_call {q = p'} {u = t'} {x = x} {a = a} {calls = rest} {answers = others} m n) =
    let e = call p p' t t' x a m in
    let f = list p' q t' u rest others n in
    rw (e.0, ← e.1, ← e.2, f.0) (refl, f.1, f.2)

-- each contract allows what the definition does
makes : (p : Pool) (t : Tally) (x : Call) → Makes p t x (call_of p x).answer (call_of p x).pool (tallied (call_of p x).counted t)
makes p t (Begin c g) = rw (← begin_quiet p c g t) (begin (call_of p (Begin c g)) (refl, begin_refusals p c g))
makes p t (Step c) = step_tallied (stepped_of p c t) (refl, step_refusals p c)
makes p t (Release c g) = rw (← release_quiet p c g t) (release (call_of p (Release c g)) (refl, release_refusals p c g))

plays : (p : Pool) (t : Tally) (calls : List Call) → (answers : List Answer) × (q : Pool) × (u : Tally) × Plays p t calls answers q u
plays p t [] = ([], p, t, at_end)
plays p t (x ∷ calls) = let rest = plays (call_of p x).pool (tallied (call_of p x).counted t) calls in
    ((call_of p x).answer ∷ rest.0, rest.1, rest.2, at_call (makes p t x) rest.3)

answerable : Answerable
answerable = record { setup = λ s t c h. (setup_of s t c h, (refl, setup_refusals s t c h)); list = plays }

-- ---- the guarantee

setup : ClaimSetup
setup s t c h r says = says.0

set_up : ClaimIsSetUp
set_up s t c h r first =
    let e = setup s t c h r first.says in
    record { size = s; clients = t; cap = c; hand = h; done = rw (← e) first.done; made = rw e refl }

point3 : ClaimPoint3
point3 s t c h r first = guarantee.point3 r.pool (set_up s t c h r first)

sum : ClaimSum
sum s t c h r first calls answers q u m =
    let e = list r.pool q zero_tally u calls answers m in
    rw (e.1, e.2) (guarantee.sum r.pool (set_up s t c h r first) calls)

progress : ClaimProgress
unfolding set_up
progress s t c h r first calls answers q v u m =
    subst (λ (given : List Answer). GetsThrough s t c (StepAnswered Step calls given Accepting) (StepAnswered Step calls given EndsRequest))
    (sym (list r.pool q v u calls answers m).0)
    (same_places (steps_there Accepting r.pool calls) (steps_back EndsRequest r.pool calls) s t c
    (of_numbers (made_fresh (set_up s t c h r first)) (guarantee.progress r.pool (set_up s t c h r first) calls)))

-- ---- holdings

-- the definition's two ways out: done, and refused
module _ (p : Pool) (c : ℕ) (rows left : List Row) (a : Answer) where
  data Out : Type 0 where
    is_done : holdings_refusal p c (length rows) ≡ 0 → a ≡ Done (length (rows_of p c)) → left ≡ rows_of p c ++ drop (length (rows_of p c)) rows → Out
    is_refused : holdings_refusal p c (length rows) ≢ 0 → a ≡ Refused (holdings_refusal p c (length rows)) → left ≡ rows → Out

  out : HoldingsSays p c rows a left → Out
  unfolding holdings_of
  out =
      by_test (λ (r : Listed). listed a left ≡ r → Out) (λ t e. is_done (eqb-true _ _ t) (ap (λ (r : Listed). r.answer) e) (ap (λ (r : Listed). r.rows) e))
      (λ t e. is_refused (eqb-false _ _ t) (ap (λ (r : Listed). r.answer) e) (ap (λ (r : Listed). r.rows) e))

-- a client of which holdings is done is one of a pool that passes check 8
passed_8 : (p : Pool) (c room : ℕ) → holdings_refusal p c room ≡ 0 → valid p ≡ true
unfolding holdings_refusal
passed_8 p c room = by_test (λ (n : ℕ). n ≡ 0 → valid p ≡ true) (λ v _. v) (λ _ e. let z : ⊥ = omega arith in absurd z)

filled : (p : Pool) (c n : ℕ) (rows left : List Row) → Out p c rows left (Done n) → Fills p c n (holdings_refusal p c (length rows)) rows left
filled p c n rows left (is_done none answer is) =
    let long : n ≡ length (rows_of p c) = cc in
    let once = guarantee.held_once p c (passed_8 p c (length rows) none) in
    rw (is, long, take-append_seam (rows_of p c), drop-append_seam (rows_of p c)) (none, refl, (guarantee.holdings p c (rows_of p c)).1 refl, once, refl)
filled p c n rows left (is_refused some answer is) = let z : ◌≡◌ {A = ℕ} 0 1 = cc in let never : ⊥ = omega arith in absurd never

kept_rows : (p : Pool) (c n : ℕ) (rows left : List Row) → Out p c rows left (Refused n) → Leaves p c n (holdings_refusal p c (length rows)) rows left
kept_rows p c n rows left (is_done none answer is) = let z : ◌≡◌ {A = ℕ} 0 1 = cc in let never : ⊥ = omega arith in absurd never
kept_rows p c n rows left (is_refused some answer is) = (some, cc, is)

holdings : ListsHoldings
holdings = record {
  holdings_on = λ p c rows r l. l.0;
  holdings_of_call = λ p c r l. l.0;
  holdings_done = λ p c n rows left says. filled p c n rows left (out p c rows left (Done n) says);
  holdings_refused = λ p c n rows left says. kept_rows p c n rows left (out p c rows left (Refused n) says);
}

pub all_tied : Tied
all_tied =
    record {
      unasked = unasked;
      kept = kept;
      setup = setup;
      call = call;
      list = list;
      answerable = answerable;
      any_tally = any_tally;
      set_up = set_up;
      point3 = point3;
      sum = sum;
      progress = progress;
      holdings = holdings;
    }
