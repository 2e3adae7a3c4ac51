-- What a search for a free frame asks of a pool, and that a valid pool has it. Assumes nothing.
use Rattle.std.specs.Prelude.{◌≡◌, true, ℕ, ◌<◌, ◌≤◌}
use Rattle.pool.specs.Limits.{max_size, max_clients, max_held}
use Rattle.pool.specs.State.{number_of_clients, client}
use Rattle.pool.specs.Valid.{valid}
use Rattle.pool.specs.declared.Pool.{Pool}
use Rattle.ranges.specs.Ranges.{Ranged, ranged}

-- what a search for a free frame asks of a pool: its arrays have what its numbers say
pub record Searchable (p : Pool) : Type 0 where
  pub some_slot : 0 < p.size
  pub slots : p.size ≤ max_size
  pub clients : number_of_clients p ≤ max_clients
  pub grants : (c : ℕ) → c < number_of_clients p → (client p c).held ≤ max_held

-- a valid pool's do
pub searchable : (p : Pool) → valid p ≡ true → Searchable p
searchable p v =
    let r : Ranged p = ranged p v in
    record {
      some_slot = r.numbers.some_slot;
      slots = r.numbers.slots;
      clients = r.numbers.clients;
      grants = λ c h. (r.client c h).counts.held;
    }
