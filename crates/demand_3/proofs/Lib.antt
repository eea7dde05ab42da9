pub mod Lists
pub mod Choice
pub mod Entries
pub mod Gets
pub mod Demand3
