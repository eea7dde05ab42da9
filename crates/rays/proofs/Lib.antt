pub mod Halves
pub mod Rest
pub mod Quotients
pub mod Heights
pub mod Samples
pub mod Unique
