pub mod Fits
pub mod TimesTen
pub mod Upgraded
