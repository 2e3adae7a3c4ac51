-- No client has two grants of a page, and none wants a page that it holds: a page is begun only where it is not held, and what is granted is the page
-- that was begun (`Told`). Assumes nothing.
use mathlib.Core.Path.{◌≡◌, sym, ap, subst, ◌∙◌}
use mathlib.Core.Logic.{◌≢◌}
use Prim.Native.Nat.{ℕ, ◌+◌, ◌≤◌}
use native.Mathlib.Omega.{arith}
use native.Mathlib.Decide.{ℕ_discrete}
use lib.Dec.{eqb}
use Rattle.pool.specs.Limits.{max_held}
use Rattle.pool.specs.State.{client}
use Rattle.pool.specs.declared.Pool.{Pool}
use Rattle.pool.specs.declared.Client.{Client}
use Rattle.pool.specs.declared.Move.{Move}
use Rattle.pool.specs.declared.GrantChange.TheVariants.{Same}
use Rattle.invariant.proofs.Reached.{Singles, one, grants_of}
use Rattle.invariant.proofs.After.{client_same, client_other}
use Rattle.invariant.proofs.Sums.{one_not, one_at_most}
use Rattle.invariant.proofs.Grants.{ungranted, grants_of_keeps, grants_of_opens, grants_of_ends, grants_of_other}
use Rattle.invariant.proofs.Effects.{Effect, scene}
use Rattle.invariant.proofs.Told.{Told, goes_on, is_refused, opens, starts, ends}

module _ {p : Pool} {c : ℕ} {m : Move} (x : Effect p c m) where
  open scene x use {r, here, k, q}

  few : (d : ℕ) → (client p d).held ≤ max_held
  few = r.ranges.held_ok

  kept : m.grants ≡ Same → m.next.held ≡ k.held → (g : ℕ) → grants_of q c g ≡ grants_of p c g
  kept = grants_of_keeps p c m r.shape here few

  -- of the client that moves
  mine : Told p c m → (g : ℕ) → grants_of q c g ≤ 1
  mine (goes_on _ _ _ e h _) g = omega (arith, kept e h g, r.singles.one_each c g)
  mine (is_refused _ e h _) g = omega (arith, kept e h g, r.singles.one_each c g)
  mine (starts _ _ e h) g = omega (arith, kept e h g, r.singles.one_each c g)
  mine (ends i _ l e h _) g = omega (arith, grants_of_ends p c m r.shape here few i e h l g, r.singles.one_each c g)
  mine (opens f s _ e h _) g = go (ℕ_discrete k.page g)
    where
      more : grants_of q c g ≡ grants_of p c g + one (eqb k.page g)
      more = grants_of_opens p c m r.shape here few k.page f e h (omega (arith, r.ranges.working_held c s)) g

      go : Dec (k.page ≡ g) → grants_of q c g ≤ 1
      go (yes w) = omega (arith, more, r.singles.wanted_unheld c s, ap (grants_of p c) w, one_at_most (eqb k.page g))
      go (no w) = omega (arith, more, r.singles.one_each c g, one_not _ _ w)

  wants : Told p c m → m.next.stage ≢ 0 → grants_of q c m.next.page ≡ 0
  wants (goes_on _ s _ e h w) _ = kept e h m.next.page ∙ ap (grants_of p c) w ∙ r.singles.wanted_unheld c s
  wants (starts _ n e h) _ = kept e h m.next.page ∙ ungranted p c m.next.page (few c) n
  wants (is_refused _ _ _ z) b = absurd (b z)
  wants (opens _ _ _ _ _ z) b = absurd (b z)
  wants (ends _ _ _ _ _ z) b = absurd (b z)

  pub singles_next : Told p c m → Singles q
  singles_next t = record { one_each = λ d g. one_each d g (ℕ_discrete d c); wanted_unheld = λ d. unheld d (ℕ_discrete d c) }
    where
      other : (d : ℕ) → d ≢ c → (g : ℕ) → grants_of q d g ≡ grants_of p d g
      other = grants_of_other p c m r.shape here few x.grants

      one_each : (d g : ℕ) → Dec (d ≡ c) → grants_of q d g ≤ 1
      one_each d g (yes e) = rw e (mine t g)
      one_each d g (no o) = omega (arith, other d o g, r.singles.one_each d g)

      unheld : (d : ℕ) → Dec (d ≡ c) → (client q d).stage ≢ 0 → grants_of q d (client q d).page ≡ 0
      unheld d (yes e) =
          rw e (subst (λ (n : Client). n.stage ≢ 0 → grants_of q c n.page ≡ 0) (sym (client_same p c m r.shape here)) (wants t))
      unheld d (no o) =
          subst (λ (n : Client). n.stage ≢ 0 → grants_of q d n.page ≡ 0) (sym (client_other p c m d o))
          (λ b. other d o (client p d).page ∙ r.singles.wanted_unheld d b)
