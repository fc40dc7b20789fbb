pub mod Driven
pub mod Row
