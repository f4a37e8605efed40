-- Laws of truth values, lists and copies.
pub mod Bools
pub mod Lists
pub mod Copies
