pub mod Arrays
pub mod Loans
