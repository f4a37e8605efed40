-- What the code's records of a round stand for, and what taking a node leaves of them.
pub mod Work
pub mod Visits
