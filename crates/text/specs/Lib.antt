pub mod Text
pub mod Writing
pub mod Numbers
