pub mod Line
pub mod Checks
pub mod Rows
mod MoreRows
mod TreeRows
mod MoreChecks
mod ValidExample
