pub mod Record
pub mod Made
