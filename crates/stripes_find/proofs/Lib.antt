pub mod Parts
pub mod Reading
pub mod Pouring
pub mod Unique
