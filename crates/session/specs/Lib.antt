pub mod Delivered
pub mod Output
pub mod Kinds
pub mod Pending
pub mod Strays
