pub mod Own
pub mod Packing
