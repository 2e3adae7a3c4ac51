use Rattle.std.proofs.Common.{◌∙◌, replicate, take, ap, sym, ◌+◌, arith}
use Rattle.std.proofs.lemmas.List.{get_or-replicate}
use Rattle.pool.specs.Limits.{max_clients}
use Rattle.pool.specs.State.{no_client, resting}
use Rattle.client_arrays.specs.Arrays.{clients_long}
use Rattle.client_arrays.specs.Loans.{clients_of}
use Rattle.client_arrays.proofs.Prefix.{one_more, whole}
use Rattle.client_arrays.proofs.ClientsMut.rest_all.Goals as goal

pub loop-c-preserved : goal.loop-c-preserved
loop-c-preserved c =
    let before = clients_of c.loop-c.self in
    let all = replicate max_clients (resting 0) in
    let n = c.loop-c.c in
    let long = clients_long c.loop-c.self.bytes.now c.loop-c.self.words.now in
    record {
      loans = record { bytes = c.put.ensures.loans.bytes ∙ c.loop-c.invariant.loans.bytes; words = c.put.ensures.loans.words ∙ c.loop-c.invariant.loans.words };
      so_far = ap (take (n + 1)) c.put.ensures.clients
          ∙ one_more before all n _ no_client (omega (arith, long)) c.loop-c-test.true c.loop-c.invariant.so_far
          (c.resting-resting.ensures ∙ sym (get_or-replicate max_clients n (resting 0) no_client c.loop-c-test.true));
    }

pub returns-clause-clients : goal.returns-clause-clients
returns-clause-clients c =
    let long = clients_long c.loop-c.self.bytes.now c.loop-c.self.words.now in
    whole (clients_of c.loop-c.self) (replicate max_clients (resting 0)) c.loop-c.c (omega (arith, long)) (omega arith) c.loop-c.invariant.so_far
