pub mod Rows
pub mod Texts
pub mod Pieces
pub mod Told
