-- Laws of a trial, and of all trials of a node.
pub mod TrialSteps
pub mod TrialLoop
