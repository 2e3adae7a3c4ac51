pub mod Among
pub mod Numbers
pub mod Refusals
