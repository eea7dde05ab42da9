pub mod Find
pub mod Inner
