pub mod Span
pub mod Outside
pub mod Found
pub mod Law
pub mod Demand
pub mod Listed
pub mod AsScan
