-- What is told of a transition that was read.
pub mod Transitions
