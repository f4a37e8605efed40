-- What the groups of commands put into words.
pub mod Groups
pub mod Refusals
