-- The working words of a round, and the paths by back pointers.
pub mod Routes
