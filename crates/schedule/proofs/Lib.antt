pub mod Runs
pub mod Turned
pub mod Going
pub mod Fuel
pub mod First
