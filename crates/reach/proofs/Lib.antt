pub mod Room
pub mod Cases
