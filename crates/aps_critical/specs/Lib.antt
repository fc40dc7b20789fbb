pub mod Critical
