pub mod LeastBudgets
pub mod Granting
pub mod Lines
