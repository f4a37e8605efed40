-- Slots of words, and an array that keeps their numbers in order.
pub mod Slots
pub mod Order
