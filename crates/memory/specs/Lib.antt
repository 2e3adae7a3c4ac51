pub mod Memory
pub mod Marks
pub mod Copying
pub mod Requests
pub mod Orders
pub mod Happenings
pub mod ByteCases
