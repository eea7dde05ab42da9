pub mod Boxes
pub mod Segments
pub mod Quads
