-- Laws of reading at positions, and of declarations.
pub mod Positions
pub mod Operands
pub mod Entries
pub mod Lists
pub mod Declarations
pub mod Items
