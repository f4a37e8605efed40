-- The definitions agree with the independent implementation.
pub mod Agreement
