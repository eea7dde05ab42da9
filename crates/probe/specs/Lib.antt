pub mod Numbers
pub mod Boxes
pub mod Casts
pub mod Rings
pub mod Stripes
