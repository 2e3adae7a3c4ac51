pub mod Runs
pub mod Sequential
pub mod BusySweep
pub mod Progress
pub mod Claims
