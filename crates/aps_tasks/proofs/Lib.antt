pub mod Short
pub mod Lasting
pub mod Stamps
pub mod Opening
pub mod Keeping
pub mod TiedLaws
