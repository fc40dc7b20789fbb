pub mod Line
pub mod Blame
pub mod Hint
pub mod Words
pub mod Refused
pub mod ViewUsage
