-- What the search on bytes says.
pub mod Searches
