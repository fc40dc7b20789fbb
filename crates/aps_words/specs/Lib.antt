pub mod Options
pub mod Number
pub mod Values
pub mod Command
pub mod Plain
pub mod Clap
pub mod Unhyphened
