pub mod Promises
pub mod Serving
