-- Laws of reading expressions.
pub mod Forms
pub mod Alike
