pub mod Lists
pub mod Rising
pub mod NameFacts
pub mod Loops
pub mod ThreadFacts
pub mod TreeFacts
pub mod Validity
pub mod Worked
