-- What the plan check comes to, by its tests.
pub mod Tests
