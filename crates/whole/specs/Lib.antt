pub mod Held
pub mod Floor
pub mod Round
pub mod Inner
