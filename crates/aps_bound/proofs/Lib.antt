pub mod Steadiness
pub mod Growth
pub mod Rising
pub mod Overlaps
pub mod Sliding
pub mod Limiting
