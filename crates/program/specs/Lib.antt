-- The programs' run.
pub mod Program
