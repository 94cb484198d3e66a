pub mod Journey
pub mod Answers
pub mod Given
pub mod Guarantees
pub mod Cases
