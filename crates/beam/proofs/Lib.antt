-- Laws of a layer in words: buckets, slots, the nodes that words stand for, what each operation leaves.
pub mod Bucketing
pub mod Written
pub mod Mapped
pub mod Layers
pub mod Removals
pub mod Cases
pub mod Ends
pub mod Whole
pub mod Moves
pub mod Nodes
