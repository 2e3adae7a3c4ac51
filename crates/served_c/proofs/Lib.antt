pub mod Exported
pub mod Kept
