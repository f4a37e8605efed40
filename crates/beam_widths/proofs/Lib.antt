-- Laws of lists of widths.
pub mod Places
pub mod Rising
