pub mod CriticalBudget
pub mod Usages
pub mod Overspending
pub mod Share
pub mod Shares
pub mod Spent
pub mod Standing
pub mod Text
