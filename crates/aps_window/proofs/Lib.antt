pub mod Accounts
pub mod Entries
pub mod Moves
pub mod Stands
pub mod Sums
pub mod Totals
pub mod Unused
