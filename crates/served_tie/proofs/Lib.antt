pub mod Kept
pub mod Answers
pub mod Numbered
pub mod Tied
