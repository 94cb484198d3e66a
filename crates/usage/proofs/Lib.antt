pub mod Weights
pub mod Carried
pub mod Counting
pub mod Answers
pub mod AddingUp
pub mod Cases
