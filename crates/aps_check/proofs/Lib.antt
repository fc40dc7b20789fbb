mod Differences
pub mod Verdicts
mod Breaches
pub mod FollowedLines
