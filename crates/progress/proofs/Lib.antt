-- Why somebody always gets through (docs/GUARANTEE.md, claim 24), in reading order. `Rank` is the one definition, with the reason for each of its terms;
-- what crate `guarantee` uses are `step_falls`, `begin_keeps`, `release_keeps` and `bounded`.
-- the rank, and what its weights come to
pub mod Rank
pub mod Weights
-- what a client and a frame weigh in two pools; at 8 the way to an empty slot
pub mod Way
pub mod Clients
pub mod Frames
-- what each kind of write does to them, and from that what a move does to the rank
pub mod Writes
pub mod Pays
-- a removal from the table; the kinds of moves that a step makes; the 23 stages; begin and release
pub mod Removal
pub mod Moves
pub mod StageFalls
pub mod BeginRelease
-- how large the rank can be
pub mod Bound
