-- The loop's invariant is `Going`: the rest of the run from here, over the bytes and the report space that are left, comes to what the run
-- after the setup does, and the pool is reached, so that no call of it meets check 8. A record's turn leaves the pool that `call_of` leaves
-- (`is_call` of `Turned`), and writes its line (`next`). The measure is what is left of the schedule. Assumes nothing.
use Prim.Native.Nat.{◌-◌}
use lib.ListN.{length}
use Rattle.schedule.proofs.Going.{Going}
use Rattle.schedule.proofs.run_loop.run_calls.Given as goal

abbrev pub invariant-loop-place : goal.invariant-loop-place
invariant-loop-place l = Going l.schedule l.fn.first l.initial.report l.pool l.place l.report

abbrev pub decreases-loop-place : goal.decreases-loop-place
decreases-loop-place l = length l.schedule - l.place
