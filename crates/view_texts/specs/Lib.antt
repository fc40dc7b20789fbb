pub mod Faults
pub mod Piece
