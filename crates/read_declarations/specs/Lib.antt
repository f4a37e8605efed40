-- Reading at positions, and what declarations put into words.
pub mod Positions
pub mod Declarations
