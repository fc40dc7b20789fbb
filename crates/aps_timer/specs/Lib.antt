pub mod Order
pub mod Sleepers
pub mod Lines
pub mod Buckets
pub mod Waking
