pub mod Longer
pub mod Bounds
pub mod Lines
pub mod Sames
pub mod Wholes
pub mod Told
pub mod Asides
