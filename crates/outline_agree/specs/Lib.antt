pub mod Plain
pub mod Own
