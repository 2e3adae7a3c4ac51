pub mod Numbers
pub mod Reads
pub mod Whole
pub mod Decimals
pub mod Lines
pub mod Rest
pub mod Reports
pub mod Written
