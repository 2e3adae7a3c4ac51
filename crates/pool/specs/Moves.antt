-- One atomic action as a `Move` (SPECIFICATION 1.9): the acting client's next record, what happens to its grants, at most one write to what the
-- clients share, the answer, and what the tally counts. Assumes nothing.
use Rattle.std.specs.Prelude.{ℕ, ◌+◌, ltb}
use Rattle.pool.specs.Limits.{max_held}
use Rattle.pool.specs.Choose.{choose}
use Rattle.pool.specs.State.{none, resting}
use Rattle.pool.specs.declared.Client.{Client}
use Rattle.pool.specs.declared.Move.{Move}
use Rattle.pool.specs.declared.Answer.TheVariants.{Done, Working, Granted, Refused}
use Rattle.pool.specs.declared.Counted.{Counted}
use Rattle.pool.specs.declared.Counted.TheVariants.{Nothing, Refusal}
use Rattle.pool.specs.declared.GrantChange.{GrantChange}
use Rattle.pool.specs.declared.GrantChange.TheVariants.{Same, Open}
use Rattle.pool.specs.declared.Write.{Write}
use Rattle.pool.specs.declared.Write.TheVariants.{Keep}

-- ---- a client's record with one thing changed

module _ (k : Client) where
  abbrev pub standing : ℕ → Client
  standing n = record { stage = n; page = k.page; own = k.own; found = k.found; victim = k.victim; seen = k.seen; place = k.place; start = k.start; busy = k.busy; held = k.held }

  abbrev pub with_own : ℕ → Client
  with_own f = record { stage = k.stage; page = k.page; own = f; found = k.found; victim = k.victim; seen = k.seen; place = k.place; start = k.start; busy = k.busy; held = k.held }

  abbrev pub with_found : ℕ → Client
  with_found f = record { stage = k.stage; page = k.page; own = k.own; found = f; victim = k.victim; seen = k.seen; place = k.place; start = k.start; busy = k.busy; held = k.held }

  abbrev pub with_victim : ℕ → Client
  with_victim f = record { stage = k.stage; page = k.page; own = k.own; found = k.found; victim = f; seen = k.seen; place = k.place; start = k.start; busy = k.busy; held = k.held }

  abbrev pub with_seen : ℕ → Client
  with_seen n = record { stage = k.stage; page = k.page; own = k.own; found = k.found; victim = k.victim; seen = n; place = k.place; start = k.start; busy = k.busy; held = k.held }

  abbrev pub with_place : ℕ → Client
  with_place i = record { stage = k.stage; page = k.page; own = k.own; found = k.found; victim = k.victim; seen = k.seen; place = i; start = k.start; busy = k.busy; held = k.held }

  -- a sweep that is to look at slot i next, after r busy visits one after the other; it has no victim
  abbrev pub sweeping : ℕ → ℕ → ℕ → Client
  sweeping start i r = record { stage = k.stage; page = k.page; own = k.own; found = k.found; victim = none; seen = k.seen; place = i; start = start; busy = r; held = k.held }

  -- begun on a page
  abbrev pub wanting : ℕ → Client
  wanting g = record { stage = 1; page = g; own = k.own; found = k.found; victim = k.victim; seen = k.seen; place = k.place; start = k.start; busy = k.busy; held = k.held }

  abbrev pub holding : ℕ → Client
  holding n = record { stage = k.stage; page = k.page; own = k.own; found = k.found; victim = k.victim; seen = k.seen; place = k.place; start = k.start; busy = k.busy; held = n }

  -- ---- moves: a Move is written nowhere else

  -- the client goes on to another stage
  abbrev pub works_as : Counted → ℕ → Write → Move
  works_as counted n write = record { next = standing n; grants = Same; write = write; answer = Working n; counted = counted }

  abbrev pub works : ℕ → Write → Move
  works n write = works_as Nothing n write

  -- nothing changes, and the call is refused by n
  abbrev pub still : ℕ → Move
  still n = record { next = k; grants = Same; write = Keep; answer = Refused n; counted = Nothing }

  -- SPECIFICATION 4.30: what cannot be done
  abbrev pub stuck : Move
  stuck = still 8

  -- SPECIFICATION 4.29: the client rests, with one grant more, which is on frame f
  abbrev pub opens : ℕ → Write → Counted → Move
  opens f write counted =
      record { next = resting (k.held + 1); grants = Open k.held k.page f; write = write; answer = Granted f; counted = counted }

  -- SPECIFICATION 4.29, 4.30: the same, if the client can have one grant more
  unfoldable pub granted : ℕ → Write → Counted → Move
  granted f write counted = choose (ltb k.held max_held) (opens f write counted) stuck

  -- SPECIFICATION 3.9: refusal 15
  abbrev pub refused15 : Move
  refused15 = record { next = resting k.held; grants = Same; write = Keep; answer = Refused 15; counted = Refusal }

-- a begin or release is done
abbrev pub completes : ℕ → Client → GrantChange → Write → Move
completes g next grants write = record { next = next; grants = grants; write = write; answer = Done g; counted = Nothing }
