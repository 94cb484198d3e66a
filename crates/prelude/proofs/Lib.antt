pub mod Kit
pub mod Choices
pub mod Refusals
pub mod Bits
pub mod Lists
pub mod Lowest
pub mod Sums
