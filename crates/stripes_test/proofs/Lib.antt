pub mod Steps
pub mod Verdict
pub mod Unique
