pub mod Standing
pub mod Building
pub mod Demand
pub mod Unique
