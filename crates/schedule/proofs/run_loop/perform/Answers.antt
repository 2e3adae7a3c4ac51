use Rattle.std.proofs.Common.{arith, ◌<◌}
use Rattle.pool.specs.State.{number_of_clients}
use Rattle.pool.specs.Calls.{caller}
use Rattle.play.specs.Turn.{is_client}
use Rattle.schedule.proofs.run_loop.perform.Goals as goal

pub put-requires-clause-client : goal.put-requires-clause-client
put-requires-clause-client c =
    let p = c.args.pool.now in
    let h : caller c.args.call < number_of_clients p = is_client p c.args.call (c.in-Ok.ensures).0 in
    omega (arith, h, c.caller-c.ensures, c.requires.client_count)
