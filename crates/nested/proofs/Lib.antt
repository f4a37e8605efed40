pub mod Waiting
pub mod Quotients
