pub mod Refused
pub mod Unique
pub mod Withdrawn
pub mod Said
