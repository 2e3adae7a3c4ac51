pub mod Low
pub mod Turn
