-- Laws of the report of a run, and of its numbers.
pub mod Reporting
pub mod Numbers
