pub mod Building
pub mod Unique
pub mod Enough
