pub mod RunLog
pub mod Seats
