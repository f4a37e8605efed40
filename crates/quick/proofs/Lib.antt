pub mod Changes
pub mod Compared
pub mod Totals
pub mod Memory
