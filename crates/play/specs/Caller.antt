-- Of what the refusals 9 to 13 and 18 are told: how many clients there are, the one that calls, and the pages of the grants. Assumes nothing.
use Rattle.std.specs.Prelude.{◌≡◌, List, ℕ, ◌<◌}
use Rattle.pool.specs.State.{number_of_clients, client}
use Rattle.pool.specs.Calls.{caller}
use Rattle.pool.specs.declared.Call.{Call}
use Rattle.pool.specs.declared.Client.{Client}
use Rattle.pool.specs.declared.Pool.{Pool}

-- they are those of pool p: k is the client that calls, where the call names one of the n clients
pub record Caller (p : Pool) (call : Call) (n : ℕ) (k : Client) (grant_pages' : List ℕ) : Type 0 where
  pub count : number_of_clients p ≡ n
  pub client : caller call < n → client p (caller call) ≡ k
  pub grant_pages : p.grant_pages ≡ grant_pages'
