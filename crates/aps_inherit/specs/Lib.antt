pub mod Order
pub mod Links
pub mod Serving
pub mod Table
pub mod Values
pub mod Opening
pub mod Chains
pub mod Own
