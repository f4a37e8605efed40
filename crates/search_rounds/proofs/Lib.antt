-- Laws of a layer's end, of a turn, and of a round.
pub mod Costing
pub mod Ending
pub mod Passing
pub mod Rounding
