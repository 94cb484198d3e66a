pub mod Events
pub mod Given
pub mod Refusals
pub mod Answers
