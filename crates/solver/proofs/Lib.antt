-- Laws of the search by its tests.
pub mod Entering
