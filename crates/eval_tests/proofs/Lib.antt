-- What is proved of stopped answers, and of a conjunction by those of its parts.
pub mod Stopping
pub mod Conjunction
