pub mod Turned
pub mod Halves
pub mod Classes
