pub mod Commands
pub mod Folded
pub mod Overspent
pub mod Room
pub mod Rows
pub mod Tested
pub mod Untested
pub mod Counted
