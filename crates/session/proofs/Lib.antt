pub mod Fours
pub mod KeyLoops
pub mod Made
pub mod Outputs
pub mod ConnectionTests
pub mod Strays
pub mod PendingWords
