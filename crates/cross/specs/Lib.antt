pub mod Cross
pub mod Inner
