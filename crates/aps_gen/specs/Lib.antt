pub mod Draws
pub mod Names
pub mod Generated
pub mod Laws
