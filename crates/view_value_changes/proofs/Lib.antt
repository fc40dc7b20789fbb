pub mod Alike
pub mod Codes
pub mod Begun
pub mod Dumped
