-- Laws of reading transitions.
pub mod Reading
