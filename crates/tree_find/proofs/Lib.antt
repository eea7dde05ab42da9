pub mod Pour
pub mod Ways
pub mod Answers
pub mod Demand
pub mod Unique
