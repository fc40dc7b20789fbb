pub mod Channels
pub mod ChannelsView
pub mod Lines
pub mod Links
pub mod Queues
pub mod Records
pub mod Serving
pub mod Waiting
