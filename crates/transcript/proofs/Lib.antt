pub mod Requests
pub mod Words
pub mod Inputs
