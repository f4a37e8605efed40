pub mod NumberLaws
pub mod SetLaws
pub mod Says
