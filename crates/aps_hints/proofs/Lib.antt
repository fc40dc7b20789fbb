pub mod Cuts
mod Refusals
