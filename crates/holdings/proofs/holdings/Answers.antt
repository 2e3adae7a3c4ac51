-- What `collect` returns, laid over the list, makes what the definition leaves there (`fills_list`). Assumes nothing.
use Rattle.std.proofs.Common.{Ok, Err}
use Rattle.holdings.proofs.Ways.{left}
use Rattle.holdings.proofs.Fills.{fills_list}
use Rattle.holdings.proofs.holdings.Goals as goal

pub returns-in-Ok : goal.returns-in-Ok
returns-in-Ok c =
    left c.args.pool c.args.client c.args.rows.now
    (rw (c.copy_from_slice.ensures.after, c.deref.ensures.0, c.len.ensures.value, c.len-in-Ok.ensures.value)
    (fills_list _ _ _ (Ok _) c.in-Ok.ensures.refusal c.in-Ok.ensures.rows))

pub returns-in-Err : goal.returns-in-Err
returns-in-Err c =
    left c.args.pool c.args.client c.args.rows.now (rw c.into.ensures (fills_list _ _ _ (Err c.in-Err.refusal) c.in-Err.ensures.refusal tt))
