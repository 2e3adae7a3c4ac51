pub mod Effects
pub mod Filling
pub mod Acting
pub mod Loans
