-- What a test of a condition tells.
pub mod Stopped
