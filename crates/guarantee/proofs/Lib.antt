-- The proofs of specs/Claims.antt, in reading order; claims have the numbers of docs/GUARANTEE.md. All of them rest on the invariant, `Reached`,
-- of crate `invariant`.
-- what holds of reached pools holds along a run
pub mod Along
-- of every pool, a handed one too: a call is turned down or is one move; the listed answers
pub mod TurnedDown
pub mod Listed
-- claim 1: the grants that the pool lists are those that the answers told the clients
pub mod GrantLists
-- claim 5: the simulation relation; the sequential pool's pages, its clients
pub mod SimulationRelation
pub mod Frames
pub mod Pages
pub mod SeqClients
-- the view after each write; each move is a step of the sequential pool; so each call and each list of calls
pub mod ViewAfter
pub mod Simulate
pub mod SimulateMoves
pub mod Follow
pub mod Sequence
-- claim 2, from the invariant; and from the sequential pool, that no held frame is evicted
pub mod Copies
-- claim 12: what each move does to the table, beside what it counts; the tally's sum; the pages that come and leave
pub mod TableMoves
pub mod Sum
pub mod Drops
-- claim 4: between two replacements of a frame it is taken anew
pub mod Once
-- a call as one client sees it; each grant takes effect once
pub mod OneClient
pub mod OneEffect
-- a client stepped alone: its moves, the limits, the sweep, and claim 6
pub mod AloneSteps
pub mod Limits
pub mod Sweep
pub mod SinceBegin
pub mod RunAlone
pub mod Alone
-- refusal 15 in company: what each stage's move is to a sweep, the busy visits in a list of events, and those before the answer
pub mod SweepMoves
pub mod Meetings
pub mod BusySweep
-- claim 23: what each stage's move is to the counts; how often the count of a frame is lowered before it is evicted
pub mod CountMoves
pub mod Lasts
-- claim 24: the arithmetic of its numbers; each call lowers the rank, or keeps it, or answers
pub mod StepBounds
pub mod Progress
-- claim 14: of every pool, a handed one too
pub mod Holdings
-- all of it, as the record `Guarantee`
pub mod Guaranteed
