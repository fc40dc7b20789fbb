pub mod Said
pub mod Separated
