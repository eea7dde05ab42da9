pub mod Own
pub mod Records
pub mod Parts
pub mod Crops
pub mod Sizes
pub mod Splits
pub mod Quadrants
