pub mod Status
pub mod Printing
pub mod Intake
pub mod Refusal
pub mod Failure
