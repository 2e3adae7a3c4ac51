pub mod Caller
pub mod Turn
pub mod Parts
pub mod Decides
pub mod Searchable
pub mod Playable
pub mod Calls
