-- Laws of a month.
pub mod Costs
pub mod Taken
pub mod Gaps
