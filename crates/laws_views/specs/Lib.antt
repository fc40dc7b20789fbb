pub mod Bankrupt
pub mod Billed
pub mod Served
pub mod Shares
