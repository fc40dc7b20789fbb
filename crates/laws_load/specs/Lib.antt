pub mod Passing
pub mod Work
pub mod OwnShare
pub mod Response
pub mod AnyMoment
pub mod Operation
