pub mod Totals
pub mod Lines
pub mod Windows
pub mod Pieces
pub mod Faults
