-- What the contracts say: the system of the bytes, its answers in enums, and what is promised of a model's parts in its bytes.
pub mod InBytes
pub mod Order
pub mod Hashes
pub mod Answers
pub mod Says
pub mod Allowed
pub mod Follow
