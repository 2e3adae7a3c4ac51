-- What the search for a frame looks at: where it starts, and who names a frame, told from a client's record and the frames of all grants.
-- Assumes nothing.
use Rattle.std.specs.Prelude.{Bool, List, ℕ, ◌+◌, ◌%◌, ◌<◌, ◌≤◌, eqb, get_or}
use Rattle.pool.specs.Limits.{max_clients, max_held}
use Rattle.pool.specs.Choose.{choose, either, some}
use Rattle.pool.specs.State.{none, no_client, of_client}
use Rattle.pool.specs.declared.Client.{Client}

-- SPECIFICATION 2.8: the frame that the search for a free one tries first, of n
unfoldable pub first_of : ℕ → ℕ → ℕ
first_of last n = choose (eqb last none) 0 ((last + 1) % n)

-- whether one of client c's n grants is on frame f
abbrev pub holds_in : List ℕ → ℕ → ℕ → ℕ → Bool
holds_in frames c n f = some (λ i. eqb (of_client frames c n none i) f) n

-- SPECIFICATION 2.6: whether client k, the one with number c, names frame f, by the frames of all grants
unfoldable pub names_in : Client → List ℕ → ℕ → ℕ → Bool
names_in k frames c f = either (eqb k.own f) (either (eqb k.found f) (either (eqb k.victim f) (holds_in frames c k.held f)))

-- there is room for n clients, and none of the first n has more grants than one may have
pub record FewGrants (n : ℕ) (clients : List Client) : Type 0 where
  pub room : n ≤ max_clients
  pub each : (c : ℕ) → c < n → (get_or clients c no_client).held ≤ max_held
