-- tools: 64 bytes copied; what each frame has after a change of the memory
pub mod Frames
-- the invariant of the bytes, over `Reached`
pub mod Kept
-- what each kind of move is to bytes and page numbers
pub mod Ways
-- page numbers over a move
pub mod PagesNext
-- marks, bytes and store over a move
pub mod MarksNext
-- a read or write of a byte of a mapped page
pub mod BytesNext
-- what a call has passed; each call keeps the invariant, and what it does to the content of a page
pub mod Passed
pub mod CallsNext
-- the setup
pub mod SetupKept
-- the claims: lists of calls, refusals
pub mod LastWritten
pub mod Refusals
-- a list that meets their premises
pub mod Witness
