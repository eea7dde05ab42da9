pub mod Steps
pub mod Scan
pub mod Unique
