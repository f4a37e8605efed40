-- The forms of the loading profile in bytes, and what is promised of the parts of a model.
pub mod Forms
pub mod Says
