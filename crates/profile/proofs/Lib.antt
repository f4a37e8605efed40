-- What is proved of the loading profile in bytes.
pub mod Trees
pub mod Walks
pub mod Removing
pub mod Outlined
