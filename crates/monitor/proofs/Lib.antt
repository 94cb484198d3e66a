pub mod Awaiting
pub mod Feeding
pub mod Reacting
