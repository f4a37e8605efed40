-- What is promised of layers and rounds in code.
pub mod Rounds
pub mod Ends
