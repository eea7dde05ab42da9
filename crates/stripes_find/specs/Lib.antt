pub mod Search
pub mod Listing
pub mod Inner
