-- What is told of an expression, if anything is, and where the cursor then stands.
pub mod Places
pub mod Told
pub mod Codes
