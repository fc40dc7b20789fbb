pub mod Allowed
pub mod Usage
pub mod Limits
pub mod Worst
pub mod Order
pub mod Cursor
pub mod Window
