-- The proofs of specs/Mixed.antt, in reading order. They rest on crate `guarantee`, for the calls of the pool, and on `Kept` of crate `contents`, which
-- gives that check 8 never turns a call down.
-- what check 8 of the bytes says, and that a kept state passes it
pub mod Passes
-- of every state: how a request goes, by which numbers it is turned down; the answers, and what a refusal leaves
pub mod Calls
pub mod Answers
-- a list of calls in a list with reads and writes; the claims brought over
pub mod Embedded
pub mod Transported
-- steps by what was asked and answered alone, for the ties
pub mod StepPlaces
-- the calls in a list of requests; the sequential pool follows the list; the claims of a list
pub mod Lists
pub mod Runs
-- of every state that passed the checks: what each stage writes, what that does to bytes and store, and that page numbers stay inside
pub mod StageWrites
pub mod ByStage
pub mod InsideAfter
-- the claims are not empty: lists that are computed
pub mod Witness
-- all of it, as the record `GuaranteeOn`
pub mod Guaranteed
