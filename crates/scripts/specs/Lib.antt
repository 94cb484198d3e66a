pub mod Operations
pub mod Reached
