pub mod ArrowCounts
pub mod Numbered
pub mod Times
