pub mod Words
pub mod Served
