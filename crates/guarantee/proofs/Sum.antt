-- The tally's sum: the pages in the table are counted by its places, of which a move changes one or none (`TableMoves`), and along a run the changes add
-- up to what the tally counts. Assumes nothing.
use mathlib.Core.Path.{◌≡◌, refl, ap, ◌∙◌}
use mathlib.Core.Bool.{Bool, true, false}
use mathlib.Core.List.{List, [], ◌∷◌}
use Prim.Native.Nat.{ℕ, zero, suc, ◌+◌, ◌<◌}
use native.Mathlib.Omega.{arith}
use borrow.Author.Tests.{ltb-true, ltb-false}
use Rattle.pool.specs.Choose.{choose, how_many}
use Rattle.pool.specs.State.{total, entry_frame}
use Rattle.pool.specs.Table.{pages_in_table}
use Rattle.pool.specs.Apply.{apply}
use Rattle.pool.specs.Calls.{fresh, SetUp, caller, call_of, pool_after}
use Rattle.pool.specs.Tallies.{largest, up, zero_tally, tallied}
use Rattle.pool.specs.declared.Pool.{Pool}
use Rattle.pool.specs.declared.Move.{Move}
use Rattle.pool.specs.declared.Outcome.{Outcome}
use Rattle.pool.specs.declared.Tally.{Tally}
use Rattle.pool.specs.declared.Call.{Call}
use Rattle.pool.specs.declared.Counted.{Counted}
use Rattle.pool.specs.declared.Counted.TheVariants.{Nothing, Hit, Join, Admitted, Revived, Drop, Refusal}
use Rattle.laws.specs.Choices.{by_test}
use Rattle.laws.specs.Setups.{of_fresh}
use Rattle.invariant.proofs.Reached.{Reached, one, sum_to}
use Rattle.invariant.proofs.After.{entry_frame_kept}
use Rattle.invariant.proofs.Writes.{table_kept}
use Rattle.invariant.proofs.Sums.{sum_same, sum_put, sum_zero}
use Rattle.invariant.proofs.Table.{put_frame, else_frame}
use Rattle.invariant.proofs.Steps.{call_edge}
use Rattle.invariant.proofs.Setup.{entry_none, first_reached}
use Rattle.invariant.proofs.Calls.{outcome_of, by_refusal, reached_call}
use Rattle.guarantee.specs.Runs.{events}
use Rattle.guarantee.specs.Claims.{tally_of, AddsUp, ClaimSum}
use Rattle.guarantee.proofs.TableMoves.{lost, gained, there, TableMove, keeps, puts, table_move}

-- ---- the pages in the table, by its places

-- 1 for a place that has an entry
abbrev entered : Pool → ℕ → ℕ
entered p i = there (entry_frame p i)

how_many_lem : (t : ℕ → Bool) (n : ℕ) → how_many t n ≡ sum_to (λ i. one (t i)) n
unfolding how_many choose sum_to
how_many_lem t zero = refl
how_many_lem t (suc n) = go (t n) (how_many_lem t n)
  where
    go : (b : Bool) → how_many t n ≡ sum_to (λ i. one (t i)) n → choose b (how_many t n + 1) (how_many t n) ≡ sum_to (λ i. one (t i)) n + one b
    go true e = omega arith
    go false e = omega arith

by_places : (p : Pool) → pages_in_table p ≡ sum_to (entered p) (total p)
unfolding pages_in_table
by_places p = how_many_lem _ (total p)

-- what a call or a move leaves of pool p has as many pages in its table as the count says
abbrev Summed : Pool → Outcome → Type 0
Summed p o = pages_in_table o.pool + lost o.counted ≡ pages_in_table p + gained o.counted

summed : (p : Pool) (c : ℕ) (m : Move) → Reached p → TableMove p m → Summed p (outcome_of p c m)
unfolding apply
summed p c m r (keeps t e) =
    let q = apply p c m in
    let same = entry_frame_kept p c m (table_kept m.write t (total p) p.table_frames).1 in
    omega (arith, by_places p, by_places q, sum_same (entered p) (entered q) (total p) (λ i _. ap there (same i)))
summed p c m r (puts j g f w h _ e) =
    let q = apply p c m in
    omega (
      arith,
      by_places p,
      by_places q,
      sum_put (entered p) (entered q) (total p) j h (λ i _ z. ap there (else_frame p c m r.shape j g f w h i z)),
      ap there (put_frame p c m r.shape j g f w h),
    )

call_summed : (p : Pool) (y : Call) → Reached p → Summed p (call_of p y)
unfolding tallied
call_summed p y r =
    by_refusal p y (Summed p) r
    (λ e. let w = call_edge p y r e in summed p (caller y) _ r (table_move p (caller y) r w.1)) (λ _ _ _. refl)

-- ---- along a run

-- a count that is below its largest value was raised by one
up_exact : (n : ℕ) → up n < largest → (up n ≡ n + 1) × (n < largest)
unfolding up
up_exact n =
    by_test (λ (x : ℕ). x < largest → (x ≡ n + 1) × (n < largest))
    (λ t h. (refl, ltb-true n largest t)) (λ t h. absurd (omega (arith, ltb-false n largest t)))

sum_next : (u : Counted) (t : Tally) (p q : Pool) → pages_in_table q + lost u ≡ pages_in_table p + gained u → AddsUp p t → AddsUp q (tallied u t)
unfolding tallied up choose
sum_next Nothing t p q e s h = omega (arith, s h)
sum_next Hit t p q e s h = omega (arith, s h)
sum_next Join t p q e s h = omega (arith, s h)
sum_next Admitted t p q e s h = let n = up_exact t.admitted h.0 in omega (arith, s (n.1, h.1), n.0)
sum_next Revived t p q e s h = omega (arith, s h)
sum_next Drop t p q e s h = let n = up_exact t.drops h.1 in omega (arith, s (h.0, n.1), n.0)
sum_next Refusal t p q e s h = omega (arith, s h)

sum_run : (p : Pool) (calls : List Call) (t : Tally) → Reached p → AddsUp p t → AddsUp (pool_after p calls) (tally_of t (events p calls))
unfolding events tally_of pool_after
sum_run p [] t r s = s
sum_run p (y ∷ calls) t r s = sum_run (call_of p y).pool calls _ (reached_call p y r) (sum_next (call_of p y).counted t _ _ (call_summed p y r) s)

none_at_first : {p : Pool} → SetUp p → pages_in_table p ≡ 0
none_at_first =
    of_fresh (λ p. pages_in_table p ≡ 0)
    (λ s t c h ok. let p = fresh s t c h in by_places p ∙ sum_zero (entered p) (total p) (λ i _. ap there (entry_none s t c h ok i)))

pub sum : ClaimSum
sum p u calls = sum_run p calls zero_tally (first_reached u) (λ _. let none = none_at_first u in omega arith)
