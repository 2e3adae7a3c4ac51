-- A call of a run counts a drop exactly if a page leaves the table, and an admission exactly if one comes. A move changes what the table has of one page at
-- most (`TableMoves`); what it has of that page before and after, and what is counted, are tied by one equation, which reads the same both ways.
-- Assumes nothing.
use mathlib.Core.Path.{◌≡◌, refl, sym, ap, ◌∙◌}
use mathlib.Core.Logic.{◌≢◌, ◌↔◌}
use Prim.Native.Nat.{ℕ, ◌+◌}
use native.Mathlib.Omega.{arith}
use native.Mathlib.Decide.{ℕ_discrete}
use Rattle.pool.specs.Choose.{choose}
use Rattle.pool.specs.State.{none}
use Rattle.pool.specs.Table.{lookup}
use Rattle.pool.specs.Apply.{apply}
use Rattle.pool.specs.Calls.{caller, call_of, pool_after}
use Rattle.pool.specs.Tallies.{up, tallied}
use Rattle.pool.specs.declared.Pool.{Pool}
use Rattle.pool.specs.declared.Move.{Move}
use Rattle.pool.specs.declared.Call.{Call}
use Rattle.pool.specs.declared.Counted.{Counted}
use Rattle.pool.specs.declared.Counted.TheVariants.{Nothing, Hit, Join, Admitted, Revived, Drop, Refusal}
use Rattle.invariant.proofs.Reached.{Reached}
use Rattle.invariant.proofs.Writes.{lookup_kept}
use Rattle.invariant.proofs.Lookups.{put_lookup, put_lookup_else}
use Rattle.invariant.proofs.Steps.{call_edge}
use Rattle.invariant.proofs.Calls.{by_refusal, reached_next, reached_after}
use Rattle.guarantee.specs.Claims.{CountsPages, ClaimDrops}
use Rattle.guarantee.proofs.TableMoves.{lost, gained, there, is_there, TableMove, keeps, puts, table_move}

-- ---- of one page at most

-- two look-ups that differ at page g at most, and so many pages less and more
module _ (before after : ℕ → ℕ) (g : ℕ) (others : (h : ℕ) → h ≢ g → after h ≡ before h) (less more : ℕ)
    (e : there (after g) + less ≡ there (before g) + more) (not_both : less ≢ 0 → more ≡ 0) where
  loses : (less ≢ 0) ↔ ((h : ℕ) × (before h ≢ none) × (after h ≡ none))
  loses = (λ z. gone z (ℕ_discrete (before g) none) (ℕ_discrete (after g) none), λ l. counted l (ℕ_discrete l.0 g))
    where
      gone : less ≢ 0 → Dec (before g ≡ none) → Dec (after g ≡ none) → (h : ℕ) × (before h ≢ none) × (after h ≡ none)
      gone z (no b) (yes a) = (g, b, a)
      gone z (no b) (no a) = absurd (z (omega (arith, e, not_both z, is_there (before g) b, is_there (after g) a)))
      gone z (yes b) _ = absurd (z (omega (arith, e, not_both z, ap there b)))

      counted : (l : (h : ℕ) × (before h ≢ none) × (after h ≡ none)) → Dec (l.0 ≡ g) → less ≢ 0
      counted (h, b, a) (no w) z = b (sym (others h w) ∙ a)
      counted (h, b, a) (yes w) z =
          let n : ⊥ = omega (arith, e, is_there (before g) (λ y. b (ap before w ∙ y)), ap there (sym (ap after w) ∙ a)) in
          n

-- ---- what is counted

only : (u : Counted) → (lost u ≢ 0 → u ≡ Drop) × (gained u ≢ 0 → u ≡ Admitted)
unfolding tallied up choose
only Nothing = (λ z. absurd (z refl), λ z. absurd (z refl))
only Hit = (λ z. absurd (z refl), λ z. absurd (z refl))
only Join = (λ z. absurd (z refl), λ z. absurd (z refl))
only Admitted = (λ z. absurd (z refl), λ _. refl)
only Revived = (λ z. absurd (z refl), λ z. absurd (z refl))
only Drop = (λ _. refl, λ z. absurd (z refl))
only Refusal = (λ z. absurd (z refl), λ z. absurd (z refl))

is_drop : (u : Counted) → u ≡ Drop → (lost u ≡ 1) × (gained u ≡ 0)
unfolding tallied up choose
is_drop u e = (ap lost e, ap gained e)

is_admitted : (u : Counted) → u ≡ Admitted → (gained u ≡ 1) × (lost u ≡ 0)
unfolding tallied up choose
is_admitted u e = (ap gained e, ap lost e)

-- ---- of a move, and of a call

-- the tables of p and q may differ at page g, as the count says
differs : (p q : Pool) (u : Counted) (g : ℕ) → ((h : ℕ) → h ≢ g → lookup q h ≡ lookup p h)
    → there (lookup q g) + lost u ≡ there (lookup p g) + gained u → CountsPages p u q
differs p q u g others e =
    let left = loses (lookup p) (lookup q) g others (lost u) (gained u) e (λ z. (is_drop u ((only u).0 z)).1) in
    let came = loses (lookup q) (lookup p) g (λ h w. sym (others h w)) (gained u) (lost u) (sym e) (λ z. (is_admitted u ((only u).1 z)).1) in (
      (λ d. left.0 (λ z. let n : ⊥ = omega (arith, (is_drop u d).0) in n), λ l. (only u).0 (left.1 l)),
      (λ d. came.0 (λ z. let n : ⊥ = omega (arith, (is_admitted u d).0) in n), λ l. (only u).1 (came.1 l)),
    )

pub none_counted : (p : Pool) → CountsPages p Nothing p
unfolding tallied
none_counted p = differs p p Nothing 0 (λ _ _. refl) refl

move_counts : (p : Pool) (c : ℕ) (m : Move) → Reached p → Reached (apply p c m) → TableMove p m → CountsPages p m.counted (apply p c m)
move_counts p c m r rq (keeps t e) =
    let same = lookup_kept p c m t in
    differs p (apply p c m) m.counted 0 (λ h _. same h) (omega (arith, e, ap there (same 0)))
move_counts p c m r rq (puts j g f w h was e) =
    differs p (apply p c m) m.counted g (put_lookup_else p c m r rq j g f w h was)
    (omega (arith, e, ap there (put_lookup p c m r rq j g f w h was), ap there was))

pub call_counts : (p : Pool) (x : Call) → Reached p → CountsPages p (call_of p x).counted (call_of p x).pool
call_counts p x r =
    by_refusal p x (λ o. CountsPages p o.counted o.pool) r
    (λ e. let w = call_edge p x r e in move_counts p (caller x) _ r (reached_next p x r e) (table_move p (caller x) r w.1)) (λ _ _ _. none_counted p)

pub drops : ClaimDrops
drops p u calls x = call_counts (pool_after p calls) x (reached_after u calls)
