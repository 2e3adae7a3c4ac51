pub mod Laying
pub mod Ways
