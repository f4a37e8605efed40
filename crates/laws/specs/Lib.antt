-- Lists and truth values, as the definitions of the other crates use them.
pub mod Lists
pub mod Hex
