-- A step with the caller's tally. Assumes nothing.
use Rattle.std.specs.Prelude.{ℕ}
use Rattle.pool.specs.Calls.{call_of}
use Rattle.pool.specs.Tallies.{tally_after}
use Rattle.pool.specs.declared.Call.TheVariants.{Step}
use Rattle.pool.specs.declared.Pool.{Pool}
use Rattle.pool.specs.declared.Tally.{Tally}
use Rattle.calls.specs.declared.Stepped.{Stepped}

-- the answer and the pool of a step of client c, and the tally that it leaves of the one lent
abbrev pub stepped_of : Pool → ℕ → Tally → Stepped
stepped_of p c t = record { answer = (call_of p (Step c)).answer; tally = tally_after p c t; pool = (call_of p (Step c)).pool }
