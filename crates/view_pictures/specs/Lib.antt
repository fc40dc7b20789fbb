pub mod Scale
pub mod Survey
pub mod Group
pub mod Scene
pub mod Panel
pub mod Strip
