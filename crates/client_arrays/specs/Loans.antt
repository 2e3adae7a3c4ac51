-- The clients that lent arrays are of; and what a call leaves of the loans. Assumes nothing.
use Rattle.std.specs.Prelude.{◌≡◌, List}
use Rattle.pool.specs.declared.Client.{Client}
use Rattle.client_arrays.specs.declared.Clients.{Clients}
use Rattle.client_arrays.specs.declared.ClientsMut.{ClientsMut}
use Rattle.client_arrays.specs.Arrays.{clients_from}

-- of arrays that are read
abbrev pub clients_in : Clients → List Client
clients_in k = clients_from k.bytes.now k.words.now

-- of arrays that are written
abbrev pub clients_of : ClientsMut → List Client
clients_of k = clients_from k.bytes.now k.words.now

-- the same references: whoever lent them knows what stands there afterwards
pub record SameClients (old new : ClientsMut) : Type 0 where
  pub bytes : new.bytes.ghost_name ≡ old.bytes.ghost_name
  pub words : new.words.ghost_name ≡ old.words.ghost_name
