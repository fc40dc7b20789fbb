pub mod Difference
pub mod Verdict
pub mod Text
pub mod Breach
pub mod Following
