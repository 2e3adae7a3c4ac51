use Rattle.std.proofs.Common.{◌∙◌, sym, arith, length-set}
use Rattle.pool.specs.State.{no_client}
use Rattle.client_arrays.specs.Arrays.{clients_long, client_from_lem}
use Rattle.client_arrays.specs.Loans.{clients_in}
use Rattle.client_arrays.proofs.Prefix.{one_more, whole}
use Rattle.client_arrays.proofs.Clients.all.Goals as goal

pub loop-c-preserved : goal.loop-c-preserved
loop-c-preserved c =
    let bytes = c.args.self.now.bytes.now in
    let words = c.args.self.now.words.now in
    let i = c.loop-c.invariant in
    record {
      long = length-set c.loop-c.clients c.loop-c.c _ ∙ i.long;
      so_far = one_more c.loop-c.clients (clients_in c.args.self.now) c.loop-c.c _ no_client (omega (arith, i.long)) (omega (arith, clients_long bytes words)) i.so_far
          (c.get.ensures ∙ sym (client_from_lem bytes words c.loop-c.c c.loop-c-test.true));
    }

pub returns : goal.returns
returns c =
    let i = c.loop-c.invariant in
    let long = clients_long c.args.self.now.bytes.now c.args.self.now.words.now in
    whole c.loop-c.clients (clients_in c.args.self.now) c.loop-c.c (omega (arith, i.long)) (omega (arith, long)) i.so_far
