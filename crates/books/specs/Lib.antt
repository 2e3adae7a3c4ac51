pub mod Books
pub mod Extents
pub mod Lent
pub mod Lists
pub mod Named
pub mod Optional
pub mod Puts
