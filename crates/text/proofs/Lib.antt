pub mod Decimals
pub mod Writing
pub mod Reading
pub mod Pieces
