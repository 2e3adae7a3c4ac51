pub mod Same
pub mod TurnedAway
pub mod Busy
pub mod Duty
pub mod Claimed
