pub mod Parts
pub mod SetCookie
pub mod Import
pub mod Guarantees
pub mod Cases
