pub mod Teaching
