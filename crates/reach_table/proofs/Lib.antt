pub mod Counting
pub mod Reaching
pub mod Guarantees
pub mod Loading
pub mod Cases
