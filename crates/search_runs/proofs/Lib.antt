-- Laws of a round's judgement, and of the widths.
pub mod Judging
pub mod Widening
