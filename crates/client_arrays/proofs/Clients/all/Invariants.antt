-- The first c clients are listed. Assumes nothing.
use Rattle.std.proofs.Common.{◌≡◌, length, take}
use Rattle.pool.specs.Limits.{max_clients}
use Rattle.client_arrays.specs.Loans.{clients_in}
use Rattle.client_arrays.proofs.Clients.all.Given as goal

abbrev pub invariant-loop-c : goal.invariant-loop-c
invariant-loop-c l = record { long : length l.clients ≡ max_clients; so_far : take l.c l.clients ≡ take l.c (clients_in l.self) }
