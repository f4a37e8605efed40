-- Laws of taking a node, and of taking all nodes of a layer.
pub mod Visiting
pub mod Layering
