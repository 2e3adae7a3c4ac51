pub mod Promises
pub mod Ties
