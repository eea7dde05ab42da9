pub mod Lists
pub mod Rings
pub mod Demand
