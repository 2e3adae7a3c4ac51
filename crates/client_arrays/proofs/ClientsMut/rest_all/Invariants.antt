-- The first c clients are at rest. Assumes nothing.
use Rattle.std.proofs.Common.{◌≡◌, take, replicate}
use Rattle.pool.specs.Limits.{max_clients}
use Rattle.pool.specs.State.{resting}
use Rattle.client_arrays.specs.Loans.{clients_of, SameClients}
use Rattle.client_arrays.proofs.ClientsMut.rest_all.Given as goal

abbrev pub invariant-loop-c : goal.invariant-loop-c
invariant-loop-c l = record { loans : SameClients l.initial.self l.self; so_far : take l.c (clients_of l.self) ≡ take l.c (replicate max_clients (resting 0)) }
