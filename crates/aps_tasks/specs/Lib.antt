pub mod Tasks
pub mod Calls
pub mod Kept
pub mod Start
pub mod Table
pub mod TasksView
pub mod Tied
