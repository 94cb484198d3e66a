pub mod Judging
pub mod Searching
pub mod Guarantees
pub mod Stopping
pub mod Naming
pub mod Taking
pub mod Cases
