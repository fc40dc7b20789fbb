pub mod Number
pub mod Step
pub mod Span
