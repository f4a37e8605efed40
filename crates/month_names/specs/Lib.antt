-- The names in a list of files, and what is known of a line as its bytes come.
pub mod Names
pub mod Lines
