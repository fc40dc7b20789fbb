pub mod FreeExcess
pub mod ServedUnsteady
pub mod LeapUsed
