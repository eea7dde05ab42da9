pub mod Records
pub mod Growing
