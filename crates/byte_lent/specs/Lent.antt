-- A step of a pool that has bytes: its reply, and what it leaves of a lent tally and of the lent store. Assumes nothing.
use Rattle.std.specs.Prelude.{List, ℕ}
use Rattle.pool.specs.Tallies.{tallied}
use Rattle.pool.specs.declared.Call.TheVariants.{Step}
use Rattle.pool.specs.declared.Tally.{Tally}
use Rattle.memory.specs.Requests.{Asks, call_on, state_of, reply}
use Rattle.memory.specs.declared.BufferPool.{BufferPool}
use Rattle.memory.specs.declared.Reply.{Reply}

module _ (b : BufferPool) (c : ℕ) (s : List ℕ) where
  abbrev pub step_on : Reply
  step_on = reply (call_on (state_of b s) (Asks (Step c)))

  abbrev pub tally_on : Tally → Tally
  tally_on t = tallied (call_on (state_of b s) (Asks (Step c))).counted t

  abbrev pub store_on : List ℕ
  store_on = (call_on (state_of b s) (Asks (Step c))).state.store
