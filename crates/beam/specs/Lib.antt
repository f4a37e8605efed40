-- A layer of the beam in words.
pub mod Nodes
pub mod Buckets
pub mod Parts
pub mod Layers
