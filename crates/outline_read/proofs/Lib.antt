pub mod Pools
pub mod Rows
pub mod Statistics
pub mod Left
pub mod Demand
