pub mod Joined
pub mod Index
pub mod Inner
