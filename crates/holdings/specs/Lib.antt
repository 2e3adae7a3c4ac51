pub mod Rows
pub mod ReadRows
pub mod First
pub mod Refusals
