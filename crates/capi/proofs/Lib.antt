pub mod Telling
pub mod Striped
pub mod Unique
pub mod Withdrawn
