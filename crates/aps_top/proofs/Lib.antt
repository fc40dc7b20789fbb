pub mod Unread
pub mod Caused
pub mod Due
pub mod CheckRead
pub mod Statuses
pub mod PrintedBound
