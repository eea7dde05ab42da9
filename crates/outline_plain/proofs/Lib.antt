pub mod Alone
pub mod Unique
