pub mod Grid
pub mod Meaning
pub mod Rings
