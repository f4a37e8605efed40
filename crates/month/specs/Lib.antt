-- A month: the answers to a list of names.
pub mod Month
pub mod Taking
