-- What the contracts cite besides the lower layer's definitions: how values, states, names and tables are held in words.
pub mod Signs
pub mod Tables
pub mod FullSets
pub mod States
pub mod Signature
