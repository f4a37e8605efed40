-- What the expansion of a node leaves of the layer in the making.
pub mod Expansion
