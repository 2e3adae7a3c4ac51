-- The invariant of the pools of a run (SPECIFICATION 3.8), and its proof. To read it:
--   Reached says what holds: one record of eight layers with named clauses. Who uses the invariant needs no other file.
--   Edges lists the moves that a call can make in such a pool, Steps shows that every call makes one of them.
--   Effects says of each of these moves what it does to each thing the layers speak of: one data type for each thing, with its few ways.
--   Next draws from these ways what every layer needs: which frames keep their slot, entry, page, pins and grants.
--   Then a file a layer carries that layer over a move, from Effects and Next, and where it asks for more, edge by edge.
--   Calls puts the layers together over a move, a call and a list of calls: `reached_after`.
-- Every proof goes over one of three lists: the 23 stages (Steps), the 21 edges, or the ways of one thing.

pub mod Reached
-- tools: how the pool reads after a write; numbers that stay distinct; sums and the pigeonhole; facts of every stage; tests on stage numbers
pub mod After
pub mod Writes
pub mod Distinct
pub mod Sums
pub mod Pigeonhole
pub mod StageTests
-- what the pool's searches find, its table by frame, its grants after a move, what a call has passed
pub mod Searches
pub mod Table
pub mod Grants
pub mod Allowed
-- what follows from the clauses: a search never fails, pins and claims of one frame
pub mod NeverFails
pub mod Facts
-- the moves, what they do, and what that leaves
pub mod Edges
pub mod Steps
pub mod Effects
pub mod Next
-- what they tell their client, and do to its grants
pub mod Told
-- the layers, in the order of the record; Knowing is the part of Mapping that speaks of what a client knows at its stage
pub mod Ranges
pub mod Singles
pub mod Places
pub mod Private
pub mod PinCounts
pub mod Knowing
pub mod Mapping
pub mod Evictions
-- the look-up of each page after an entry is put
pub mod Lookups
-- check 8, the setup, and all calls
pub mod Valid
pub mod Setup
pub mod Calls
