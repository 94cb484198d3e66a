pub mod Splitting
pub mod Room
