pub mod CriticalExcess
pub mod OrdinaryExcess
