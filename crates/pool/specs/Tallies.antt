-- The tally. Assumes nothing.
use Rattle.std.specs.Prelude.{ℕ, ◌+◌, ltb}
use Rattle.pool.specs.Choose.{choose}
use Rattle.pool.specs.Calls.{call_of}
use Rattle.pool.specs.declared.Pool.{Pool}
use Rattle.pool.specs.declared.Tally.{Tally}
use Rattle.pool.specs.declared.Call.TheVariants.{Step}
use Rattle.pool.specs.declared.Counted.{Counted}
use Rattle.pool.specs.declared.Counted.TheVariants.{Nothing, Hit, Join, Admitted, Revived, Drop, Refusal}

abbrev pub largest : ℕ
largest = 4294967295

-- SPECIFICATION 7.1: a count that went up by one
unfoldable pub up : ℕ → ℕ
up n = choose (ltb n largest) (n + 1) n

abbrev pub zero_tally : Tally
zero_tally = record { hits = 0; joins = 0; admitted = 0; revived = 0; drops = 0; refused = 0 }

-- SPECIFICATION 7.1: one line for each count. Which action is counted as what stands in its stage's definition.
unfoldable pub tallied : Counted → Tally → Tally
tallied Nothing t = t
tallied Hit t = record { hits = up t.hits; joins = t.joins; admitted = t.admitted; revived = t.revived; drops = t.drops; refused = t.refused }
tallied Join t = record { hits = t.hits; joins = up t.joins; admitted = t.admitted; revived = t.revived; drops = t.drops; refused = t.refused }
tallied Admitted t = record { hits = t.hits; joins = t.joins; admitted = up t.admitted; revived = t.revived; drops = t.drops; refused = t.refused }
tallied Revived t = record { hits = t.hits; joins = t.joins; admitted = t.admitted; revived = up t.revived; drops = t.drops; refused = t.refused }
tallied Drop t = record { hits = t.hits; joins = t.joins; admitted = t.admitted; revived = t.revived; drops = up t.drops; refused = t.refused }
tallied Refusal t = record { hits = t.hits; joins = t.joins; admitted = t.admitted; revived = t.revived; drops = t.drops; refused = up t.refused }

-- SPECIFICATION 7.2: the tally that a step of client c leaves of the one it was lent
abbrev pub tally_after : Pool → ℕ → Tally → Tally
tally_after p c t = tallied (call_of p (Step c)).counted t
