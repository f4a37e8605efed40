-- What is promised of judgements, widths and runs in code.
pub mod Runs
pub mod Widths
