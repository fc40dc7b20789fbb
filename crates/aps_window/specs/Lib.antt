pub mod Account
pub mod Bills
pub mod Entries
pub mod Slots
pub mod StandsFor
pub mod Whole
pub mod Window
pub mod WindowView
