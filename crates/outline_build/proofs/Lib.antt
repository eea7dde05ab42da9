pub mod Roomy
pub mod Rings
pub mod Outcomes
pub mod Told
pub mod Unique
pub mod Enough
