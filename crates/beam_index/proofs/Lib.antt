-- Laws of the index.
pub mod Highest
pub mod Linked
