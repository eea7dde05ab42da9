pub mod Shift
pub mod Far
pub mod Within
pub mod Results
pub mod Meaning
pub mod Unique
