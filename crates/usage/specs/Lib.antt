pub mod Tally
pub mod Lines
pub mod Cases
