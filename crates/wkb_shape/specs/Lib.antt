pub mod Refusals
pub mod Wkb
pub mod Written
pub mod Inner
