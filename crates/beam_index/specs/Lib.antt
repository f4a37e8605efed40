-- An index of slots by buckets, in words.
pub mod Links
