pub mod Pools
pub mod Options
pub mod Parts
pub mod Inner
