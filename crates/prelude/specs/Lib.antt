pub mod Choice
pub mod Refusals
pub mod Lists
pub mod Sums
