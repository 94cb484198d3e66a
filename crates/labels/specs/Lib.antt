pub mod Membership
pub mod Sets
pub mod Addresses
pub mod BitSets
