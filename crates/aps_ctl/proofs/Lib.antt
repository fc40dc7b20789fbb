pub mod Next
pub mod Refused
pub mod Changes
pub mod InTurn
