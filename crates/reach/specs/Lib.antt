pub mod Report
pub mod Cases
