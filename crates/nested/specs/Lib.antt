-- What is known before a number is read, and what waits while it is.
pub mod Known
pub mod Waiting
