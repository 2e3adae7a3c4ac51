pub mod Each
pub mod Decided
pub mod Fits
