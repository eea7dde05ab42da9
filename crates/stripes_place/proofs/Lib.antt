pub mod Mono
pub mod Samples
pub mod Unique
