pub mod Below
pub mod Membership
pub mod Words
pub mod Endpoints
