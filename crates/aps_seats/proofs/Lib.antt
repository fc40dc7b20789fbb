pub mod Sums
pub mod Others
pub mod Own
pub mod Queue
pub mod Turning
pub mod Visits
pub mod Sharing
pub mod Ends
