-- Laws of the children offered to one layer.
pub mod Offering
