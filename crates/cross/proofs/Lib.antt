pub mod Told
pub mod Ends
pub mod Unique
