pub mod Part
pub mod Inner
