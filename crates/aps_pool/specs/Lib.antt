pub mod Pool
pub mod Share
