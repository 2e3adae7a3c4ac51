pub mod First
pub mod Some
