pub mod Indexes
pub mod Statistics
pub mod Inner
