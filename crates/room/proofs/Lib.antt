pub mod Cases
pub mod Write
pub mod Holds
pub mod Fill
pub mod UpTo
pub mod Count
pub mod Pour
pub mod Unique
