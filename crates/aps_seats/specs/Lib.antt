pub mod Log
pub mod Seen
pub mod Idle
pub mod Rule
pub mod Kinds
pub mod Own
