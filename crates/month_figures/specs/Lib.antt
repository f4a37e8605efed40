-- The figures of a month, and the same as the code keeps them.
pub mod Closing
pub mod Kept
