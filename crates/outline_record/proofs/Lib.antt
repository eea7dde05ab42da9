pub mod Pad
pub mod Extremes
pub mod Among
pub mod Boxes
pub mod Read
pub mod Unique
