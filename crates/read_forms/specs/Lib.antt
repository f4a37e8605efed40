-- Parts says what the reader of expressions answers; Layouts and Forms say what the functions below it answer, form by form.
pub mod Refusals
pub mod Parts
pub mod Layouts
pub mod Forms
