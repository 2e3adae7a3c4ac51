pub mod Refusals
pub mod Tallied
