-- The upper layer's definitions, in the order to read them. docs/FORMAT.md says them in words; each file names its headings there.
pub mod Answer
pub mod Search
pub mod Guarantee
pub mod Run
pub mod Demands
