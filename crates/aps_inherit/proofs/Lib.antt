pub mod Ordering
pub mod Chains
pub mod Serving
pub mod Tables
pub mod Values
pub mod Opening
pub mod Changes
