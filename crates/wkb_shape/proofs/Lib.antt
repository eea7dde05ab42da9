pub mod Reading
pub mod Laid
pub mod Begins
pub mod Back
pub mod Unique
