pub mod Outline
pub mod Rules
pub mod Inner
