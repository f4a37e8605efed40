-- Laws that the proofs of the functions cite, and those that callers cite.
pub mod Integers
pub mod Literal
pub mod Members
pub mod Entries
pub mod Parts
pub mod Sums
pub mod Differences
pub mod Covered
pub mod Bytes
pub mod FullSets
