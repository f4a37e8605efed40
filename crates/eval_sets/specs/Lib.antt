-- The evaluators' definitions: forms, troubles, answers, the run of an expression, and what is promised of it.
pub mod Forms
pub mod Troubles
pub mod Answers
pub mod Bounds
pub mod Runs
pub mod Promise
