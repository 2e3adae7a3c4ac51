pub mod Held
pub mod Refused
pub mod Acts
