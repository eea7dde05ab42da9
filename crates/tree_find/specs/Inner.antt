pub mod Walks
pub mod Parts
pub mod Visits
