-- Laws of reading groups of commands, and whole models.
pub mod Offsets
pub mod Outlining
pub mod Alike
pub mod Stages
pub mod Whole
pub mod Refusals
