-- Laws of the figures of a month.
pub mod Seen
pub mod Gathering
pub mod Adding
pub mod Fitting
pub mod Open
pub mod Cases
