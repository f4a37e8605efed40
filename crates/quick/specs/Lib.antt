-- What is decided in place, and what is promised of it.
pub mod Sets
pub mod Entries
pub mod Quick
pub mod Sums
