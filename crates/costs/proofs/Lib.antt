-- The two cost rules by the code's tests.
pub mod Rules
