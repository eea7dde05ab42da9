pub mod Walk
pub mod Put
pub mod Rules
pub mod Accepted
pub mod Written
pub mod Samples
pub mod Unique
