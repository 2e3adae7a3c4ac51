pub mod Copies
pub mod Ways
