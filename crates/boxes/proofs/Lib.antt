pub mod Sizes
pub mod Quads
pub mod Middle
pub mod Lines
pub mod Segments
pub mod Samples
pub mod Unique
pub mod Meets
