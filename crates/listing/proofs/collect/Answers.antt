-- Each early return is one refusal, met where the tests before it passed. Assumes nothing.
use Rattle.std.proofs.Common.{arith}
use Rattle.listing.proofs.Ways.{many_clients, no_such_client, many_held, few_rows, enough}
use Rattle.listing.proofs.collect.Goals as goal

pub returns-then-client_count-gt-MAX_CLIENTS-clause-found : goal.returns-then-client_count-gt-MAX_CLIENTS-clause-found
returns-then-client_count-gt-MAX_CLIENTS-clause-found c = λ p count there grants. (many_clients p _ _ (rw count c.if-client_count-gt-MAX_CLIENTS.true), tt)

pub returns-then-client-client_count-clause-found : goal.returns-then-client-client_count-clause-found
returns-then-client-client_count-clause-found c =
    λ p count there grants. (no_such_client p _ _ (rw count c.if-client_count-gt-MAX_CLIENTS.false) (rw count c.if-client-client_count.true), tt)

pub returns-then-held-gt-MAX_HELD-clause-found : goal.returns-then-held-gt-MAX_HELD-clause-found
returns-then-held-gt-MAX_HELD-clause-found c =
    λ p count there grants. (
      many_held p _ _ (rw count c.if-client_count-gt-MAX_CLIENTS.false) (rw count c.if-client-client_count.false) _ _ there (rw c.from-c.ensures at c.client_at-held.ensures)
          c.if-held-gt-MAX_HELD.true,
      tt,
    )

pub returns-then-room-len-clause-found : goal.returns-then-room-len-clause-found
returns-then-room-len-clause-found c =
    λ p count there grants. (
      few_rows p _ _ (rw count c.if-client_count-gt-MAX_CLIENTS.false) (rw count c.if-client-client_count.false) _ _ there (rw c.from-c.ensures at c.client_at-held.ensures)
          c.if-held-gt-MAX_HELD.false grants (rw (c.from-c.ensures, c.from.ensures) at c.gather-rows.ensures) (omega (arith, c.len.ensures.value, c.if-room-len.true)),
      tt,
    )

pub returns-clause-found : goal.returns-clause-found
returns-clause-found c =
    λ p count there grants.
    enough p _ _ (rw count c.if-client_count-gt-MAX_CLIENTS.false) (rw count c.if-client-client_count.false) _ _ there (rw c.from-c.ensures at c.client_at-held.ensures)
    c.if-held-gt-MAX_HELD.false grants (rw (c.from-c.ensures, c.from.ensures) at c.gather-rows.ensures) (omega (arith, c.len.ensures.value, c.if-room-len.false))
