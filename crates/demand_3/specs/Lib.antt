pub mod Words
pub mod Demand3
