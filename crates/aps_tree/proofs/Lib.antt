pub mod Named
pub mod Distinct
pub mod Kept
