-- Places in a list of widths, and the built-in list.
pub mod Lists
