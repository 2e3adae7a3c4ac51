pub mod Every
pub mod Parts
pub mod Stored
