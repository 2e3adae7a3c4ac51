-- What a move does to its client's grants and to the page that the client wants, and what it tells the client: five ways, of which each kind of
-- move shows one. A page is begun only where it is not held. Assumes nothing.
use mathlib.Core.Path.{◌≡◌, refl, sym, ◌∙◌}
use mathlib.Core.Logic.{◌≢◌}
use mathlib.Core.Bool.{not}
use Prim.Native.Nat.{ℕ, ◌+◌, ◌-◌, ◌<◌}
use lib.Dec.{T, eqb}
use Rattle.pool.specs.State.{none, client}
use Rattle.pool.specs.Grants.{grant_of}
use Rattle.pool.specs.declared.Pool.{Pool}
use Rattle.pool.specs.declared.Client.{Client}
use Rattle.pool.specs.declared.Move.{Move}
use Rattle.pool.specs.declared.Answer.TheVariants.{Working, Granted, Refused}
use Rattle.pool.specs.declared.GrantChange.TheVariants.{Same, Open, End}
use Rattle.invariant.proofs.Searches.{grant_of_found}
use Rattle.invariant.proofs.StageTests.{differ}
use Rattle.invariant.proofs.Edges.{Edge, moves_on, found1, found18, forgets2, forgets22, pins2, pins19, gets3, gets21, takes, fills, replaces, refuses}
use Rattle.invariant.proofs.Edges.{evicts14, removes, admits, revives, evicts20, evicts23, begins, releases}

module _ (p : Pool) (c : ℕ) where
  abbrev k : Client
  k = client p c

  pub data Told (m : Move) : Type 0 where
    goes_on : (j : ℕ) → k.stage ≢ 0 → m.answer ≡ Working j → m.grants ≡ Same → m.next.held ≡ k.held → m.next.page ≡ k.page → Told m
    is_refused : m.answer ≡ Refused 15 → m.grants ≡ Same → m.next.held ≡ k.held → m.next.stage ≡ 0 → Told m
    opens : (f : ℕ) → k.stage ≢ 0 → m.answer ≡ Granted f → m.grants ≡ Open k.held k.page f → m.next.held ≡ k.held + 1 → m.next.stage ≡ 0
        → Told m
    starts : k.stage ≡ 0 → grant_of p c m.next.page ≡ none → m.grants ≡ Same → m.next.held ≡ k.held → Told m
    ends : (i : ℕ) → k.stage ≡ 0 → i < k.held → m.grants ≡ End i (k.held - 1) → m.next.held ≡ k.held - 1 → m.next.stage ≡ 0 → Told m

  -- a client at stage i works
  busy : (i : ℕ) → k.stage ≡ i → T (not (eqb i 0)) → k.stage ≢ 0
  busy i e t z = differ i 0 t (sym e ∙ z)

  on : (i j : ℕ) → k.stage ≡ i → T (not (eqb i 0)) → {m : Move} → m.answer ≡ Working j → m.grants ≡ Same → m.next.held ≡ k.held
      → m.next.page ≡ k.page → Told m
  on i j e t a g h w = goes_on j (busy i e t) a g h w

  pub told : {m : Move} → Edge p c m → Told m
  told (moves_on n j w h) = goes_on j h.stages.working refl refl h.same.held h.same.page
  told (found1 e _) = on 1 2 e tt refl refl refl refl
  told (found18 e _) = on 18 19 e tt refl refl refl refl
  told (forgets2 e _) = on 2 4 e tt refl refl refl refl
  told (forgets22 e _) = on 22 23 e tt refl refl refl refl
  told (pins2 e _) = on 2 3 e tt refl refl refl refl
  told (pins19 e _) = on 19 20 e tt refl refl refl refl
  told (gets3 e) = opens k.found (busy 3 e tt) refl refl refl refl
  told (gets21 e) = opens k.found (busy 21 e tt) refl refl refl refl
  told (takes e _) = on 4 5 e tt refl refl refl refl
  told (fills e _) = on 8 9 e tt refl refl refl refl
  told (replaces e _) = on 15 16 e tt refl refl refl refl
  told (refuses _ _) = is_refused refl refl refl refl
  told (evicts14 e _) = on 14 15 e tt refl refl refl refl
  told (removes e _) = on 17 18 e tt refl refl refl refl
  told (admits e _ _) = opens k.own (busy 18 e tt) refl refl refl refl
  told (revives e _) = opens k.own (busy 22 e tt) refl refl refl refl
  told (evicts20 e) = on 20 21 e tt refl refl refl refl
  told (evicts23 e) = on 23 4 e tt refl refl refl refl
  told (begins g e _ n) = starts e n refl refl
  told (releases g e z) = ends (grant_of p c g) e (grant_of_found p c g z).0 refl refl e
