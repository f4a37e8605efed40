-- Laws of paths, and of a layer that becomes current.
pub mod Tracing
pub mod Gathering
