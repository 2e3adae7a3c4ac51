-- What a step returns besides the tally that it was lent. Assumes nothing.
use Rattle.std.specs.Prelude.{ℕ}
use Rattle.pool.specs.Calls.{call_of}
use Rattle.pool.specs.declared.Call.TheVariants.{Step}
use Rattle.pool.specs.declared.Pool.{Pool}
use Rattle.step.specs.declared.Answered.{Answered}

-- the answer and the pool of a step of client c
abbrev pub answered_of : Pool → ℕ → Answered
answered_of p c = record { answer = (call_of p (Step c)).answer; pool = (call_of p (Step c)).pool }
