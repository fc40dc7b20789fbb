pub mod Said
pub mod Retraced
pub mod Viewed
pub mod Dues
