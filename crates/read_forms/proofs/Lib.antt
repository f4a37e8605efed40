-- Laws of operands, of layouts by first bytes, and of the counts of parts.
pub mod Numbered
pub mod Rows
pub mod Operands
pub mod Bounds
pub mod Counts
