-- The rank does not rise at a begin or a release. Assumes nothing.
use mathlib.Core.Path.{◌≡◌, ap}
use mathlib.Core.Logic.{◌≢◌}
use mathlib.Core.Bool.{not}
use Prim.Native.Nat.{ℕ, ◌-◌, ◌≤◌}
use native.Mathlib.Omega.{arith}
use lib.Dec.{eqb}
use borrow.Author.Tests.{eqb-false}
use Rattle.pool.specs.State.{none, pinned, pins, client, grant_frame}
use Rattle.pool.specs.Table.{lookup}
use Rattle.pool.specs.Grants.{grant_of}
use Rattle.pool.specs.Calls.{begin_move, release_move, move_of}
use Rattle.pool.specs.Moves.{holding, stuck, completes}
use Rattle.pool.specs.Apply.{apply}
use Rattle.pool.specs.declared.Pool.{Pool}
use Rattle.pool.specs.declared.Client.{Client}
use Rattle.pool.specs.declared.Move.{Move}
use Rattle.pool.specs.declared.Call.TheVariants.{Begin, Release}
use Rattle.pool.specs.declared.GrantChange.TheVariants.{End}
use Rattle.pool.specs.declared.Write.TheVariants.{PutPins}
use Rattle.laws.specs.Choices.{by_test}
use Rattle.invariant.proofs.Facts.{grant_pinned}
use Rattle.invariant.proofs.Searches.{grant_of_found}
use Rattle.progress.proofs.Rank.{anew, rank_at, rank}
use Rattle.progress.proofs.Weights.{weigh_at_most}
use Rattle.progress.proofs.Writes.{Acting, actor}
use Rattle.progress.proofs.Pays.{frames_kept, unseen}

module _ {p : Pool} {c : ℕ} (act : Acting p c) where
  open actor act use {r, k, s, t}

  -- whichever page is begun, the table may have it
  pub begin_keeps : (g : ℕ) → (client p c).stage ≡ 0 → rank (apply p c (move_of p (Begin c g))) ≤ rank p
  unfolding move_of rank_at
  begin_keeps g e =
      let m : Move = begin_move k g in
      let own = weigh_at_most (not (eqb (lookup p g) none)) (anew s t) in
      omega (arith, unseen act m 0 0 0 e (frames_kept act m tt) (λ _. tt) tt (omega (arith, own)))

  -- a held frame has a pin, so nobody goes by its having none
  pub release_keeps : (g : ℕ) → (client p c).stage ≡ 0 → grant_of p c g ≢ none → rank (apply p c (move_of p (Release c g))) ≤ rank p
  unfolding move_of release_move rank_at
  release_keeps g e z =
      by_test (λ (m : Move). rank (apply p c m) ≤ rank p)
      (λ _. omega (arith, unseen act (stuck k) 0 0 0 e (frames_kept act (stuck k) tt) (λ _. tt) tt (omega (arith, at_rest k e))))
      (λ n. let m : Move = completes g (holding k (k.held - 1)) (End i (k.held - 1)) (PutPins f (pins p f - 1)) in
      omega (
        arith,
        unseen act m 0 0 0 e (frames_kept act m (r.ranges.grant_ok c i some, (λ y. absurd (eqb-false _ _ n y)))) (λ _. busy) busy
            (omega (arith, at_rest m.next e)),
      ))
    where
      i : ℕ
      i = grant_of p c g

      f : ℕ
      f = grant_frame p c i

      some : f ≢ none
      some = r.mapping.grant_named c i (grant_of_found p c g z).0

      busy : pins p f ≢ pinned 0
      busy n = let y : ⊥ = omega (arith, grant_pinned p r c i some, n) in y

      at_rest : (n : Client) → n.stage ≡ 0 → rank_at s t p n.stage n ≡ rank_at s t p 0 n
      at_rest n w = ap (λ (x : ℕ). rank_at s t p x n) w
