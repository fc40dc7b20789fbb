pub mod Pending
pub mod Outcome
