pub mod Named
pub mod Changes
pub mod Refusals
pub mod Tree
pub mod TreeView
