-- The lower layer's definitions, in the order to read them. docs/FORMAT.md says them in words; each file names its headings there.
pub mod Numbers
pub mod Troubles
pub mod Values
pub mod Sets
pub mod System
pub mod Plans
pub mod Syntax
pub mod Readers
pub mod Expressions
pub mod Commands
pub mod Meaning
pub mod Costs
pub mod Steps
pub mod Real
pub mod Check
pub mod Profile
