pub mod Rings
pub mod Queries
pub mod Ready
pub mod Unique
