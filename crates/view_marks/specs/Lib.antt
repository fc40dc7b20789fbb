pub mod Bar
pub mod Mark
pub mod Arrow
pub mod Starved
pub mod Alteration
pub mod Drawn
pub mod Text
