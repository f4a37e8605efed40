-- What is proved of the runs of expressions: laws of reading, ends, values and bounds, then what the code's proofs cite.
pub mod Reading
pub mod Spans
pub mod Kept
pub mod Parts
pub mod Meanings
pub mod Promises
pub mod Examples
pub mod Within
pub mod Passing
pub mod Opening
pub mod Slices
pub mod Integers
