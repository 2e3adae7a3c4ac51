-- What the turn of a call asks of a pool, and that every pool that passes check 8 has it. Assumes nothing.
use Rattle.std.specs.Prelude.{◌≡◌, true, List, ℕ, ◌<◌, ◌≤◌, get_or}
use Rattle.std.proofs.Common.{subst}
use Rattle.pool.specs.Limits.{max_held}
use Rattle.pool.specs.State.{number_of_clients, pins, client, no_client}
use Rattle.pool.specs.Valid.{valid}
use Rattle.pool.specs.declared.Client.{Client}
use Rattle.pool.specs.declared.Pool.{Pool}
use Rattle.laws.specs.Elements.{client_of_pool}
use Rattle.ranges.specs.Ranges.{Ranged, ranged, pins_low}
use Rattle.books.specs.declared.reading.Books.{Books}
use Rattle.books.specs.Books.{pool_in}
use Rattle.books.specs.Named.{FewGrants}
use Rattle.actions.specs.Low.{LowPins}
use Rattle.play.specs.Searchable.{searchable}

-- the client as it is read where its record stands
abbrev pub record_at : Pool → ℕ → Client
record_at p c = get_or p.clients c no_client

pub some_client : (p : Pool) → valid p ≡ true → 0 < number_of_clients p
some_client p v = (ranged p v).numbers.some_client

-- what a client that acts has
pub record CanAct (b : Books) (k : Client) : Type 0 where
  pub busy : k.busy < b.numbers.size
  pub held : k.held ≤ max_held
  pub pins : LowPins b k.found

-- of a pool with these books
module _ (b : Books) (clients : List Client) (v : valid (pool_in b clients) ≡ true) where
  abbrev pub its_pool : Pool
  its_pool = pool_in b clients

  in_range : Ranged its_pool
  in_range = ranged its_pool v

  pub can_act : (c : ℕ) → c < b.numbers.client_count → CanAct b (record_at its_pool c)
  unfolding pins
  can_act c h =
      let counts = (in_range.client c h).counts in
      let P : Client → Type 0 = λ k. CanAct b k in
      subst P (client_of_pool its_pool c h)
      (record { busy = counts.busy; held = counts.held; pins = λ _. pins_low its_pool in_range (client its_pool c).found })

  pub some_slot : 0 < b.numbers.size
  some_slot = in_range.numbers.some_slot

  pub few_grants : FewGrants b.numbers.client_count clients
  few_grants =
      record {
        room = (searchable its_pool v).clients;
        each = λ c h. subst (λ (k : Client). k.held ≤ max_held) (client_of_pool its_pool c h) ((searchable its_pool v).grants c h);
      }
