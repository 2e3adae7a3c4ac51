-- The rows that were found are laid over the lent numbers, or these are left as they were. Assumes nothing.
use Rattle.listing.proofs.Ways.{lists, away}
use Rattle.listing.proofs.holdings.Goals as goal

pub returns-in-Ok : goal.returns-in-Ok
returns-in-Ok c =
    λ p count there grants.
    let found = c.in-Ok.ensures.found p count there grants in
    rw (c.lay.ensures, c.deref.ensures.0, c.len.ensures.value) (lists p _ _ found.0 found.1)

pub returns-in-Err : goal.returns-in-Err
returns-in-Err c = λ p count there grants. rw c.into.ensures (away p _ _ _ (c.in-Err.ensures.found p count there grants).0)
