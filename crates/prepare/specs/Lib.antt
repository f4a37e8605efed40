-- What is prepared of a model that was read, and what is promised of it.
pub mod Layout
pub mod Forms
pub mod Guards
pub mod Prepared
pub mod Promised
