pub mod OneStep
pub mod Requests
pub mod Running
pub mod Tables
