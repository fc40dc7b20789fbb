pub mod Entry
pub mod Retraced
pub mod Shape
