-- What counting an expansion and beginning a round make of a tally.
pub mod Tally
