pub mod LowerLine
