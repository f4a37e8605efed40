-- Laws of lines as their bytes come, and of lists cut into lines.
pub mod Pushing
pub mod Splitting
pub mod Scanning
pub mod Cases
