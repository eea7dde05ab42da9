pub mod Rules
pub mod Starts
pub mod Sound
pub mod Unique
