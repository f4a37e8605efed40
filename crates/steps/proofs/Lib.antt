-- Laws that the proofs of the functions cite, and those that callers cite.
pub mod StateWords
pub mod Outlined
pub mod Dominance
pub mod Masks
pub mod Hashing
pub mod Readings
pub mod Evaluated
pub mod Holding
pub mod Trials
pub mod Signs
pub mod Costing
pub mod Writing
pub mod Moving
pub mod Allowing
pub mod Promises
pub mod Following
pub mod Numbered
