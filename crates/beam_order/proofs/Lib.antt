-- Laws of the order array, of the words of a node, and of the order of nodes.
pub mod Arrays
pub mod Shifts
pub mod Counts
pub mod Words
pub mod Tests
pub mod Ranks
