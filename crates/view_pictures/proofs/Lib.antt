pub mod Columns
pub mod Surveyed
pub mod UpTo
pub mod Marked
