pub mod Reach
pub mod Guarantees
pub mod Cases
