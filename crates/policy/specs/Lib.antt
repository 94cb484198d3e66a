pub mod Given
pub mod Forbidden
