pub mod All
pub mod Tree
pub mod Search
pub mod Reads
