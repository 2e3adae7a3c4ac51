-- What the invariant says of a page's frame, of a held frame and of a client's found frame, as the theorems use it: a page has one frame, as it has
-- one entry; a held frame is a grant's, so pinned; so is a found frame at the stages where it is pinned for its client. Assumes nothing.
use mathlib.Core.Path.{◌≡◌, sym, ◌∙◌}
use mathlib.Core.Logic.{◌≢◌}
use mathlib.Core.Bool.{true}
use Prim.Native.Nat.{ℕ, suc, ◌≤◌, ◌<◌}
use lib.Dec.{eqb}
use borrow.Author.Tests.{eqb-true}
use Rattle.pool.specs.State.{none, pinned, number_of_clients, pins, client, grant_frame}
use Rattle.pool.specs.Grants.{holds, held}
use Rattle.pool.specs.declared.Pool.{Pool}
use Rattle.pool.specs.declared.Client.{Client}
use Rattle.invariant.proofs.Reached.{Reached, mapped, pins_found}
use Rattle.laws.specs.Scans.{some_true}
use Rattle.invariant.proofs.Facts.{grant_pinned, found_pinned, found_mapped}
use Rattle.invariant.proofs.Table.{mapped_lookup}
use Rattle.guarantee.specs.Claims.{HeldPinned}

-- a held frame has a grant
pub record Grant (p : Pool) (f : ℕ) : Type 0 where
  pub client_of : ℕ
  pub index : ℕ
  pub inside : index < (client p client_of).held
  pub names : grant_frame p client_of index ≡ f

pub held_grant : (p : Pool) (f : ℕ) → held p f ≡ true → Grant p f
unfolding held holds
held_grant p f h =
    let c = some_true (holds p f) (number_of_clients p) h in
    let i = some_true (λ j. eqb (grant_frame p c.0 j) f) (client p c.0).held c.2 in
    record { client_of = c.0; index = i.0; inside = i.1; names = eqb-true _ _ i.2 }

pub held_pinned : (p : Pool) → Reached p → HeldPinned p
held_pinned p r f h =
    let g = held_grant p f h in
    rw g.names at (grant_pinned p r g.client_of g.index (r.mapping.grant_named g.client_of g.index g.inside))

module _ (p : Pool) (r : Reached p) where
  -- a page has one frame
  pub same_frame : (f h g : ℕ) → f ≢ none → h ≢ none → mapped p f ≡ suc g → mapped p h ≡ suc g → f ≡ h
  same_frame f h g a b x y =
      let frame_of = mapped_lookup p r.shape r.mapping.pages_distinct in
      sym (frame_of f g a x).1 ∙ (frame_of h g b y).1

  module _ (c : ℕ) (e : pins_found (client p c).stage ≡ true) where
    abbrev k : Client
    k = client p c

    -- where its found frame is pinned for it, the frame has a pin
    pub found_has_pin : pinned 1 ≤ pins p k.found
    found_has_pin = found_pinned p r c (rw e tt) (found_mapped p r c e).0
