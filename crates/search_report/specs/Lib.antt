-- What a report says, by the definition's answer.
pub mod Answers
pub mod Reported
