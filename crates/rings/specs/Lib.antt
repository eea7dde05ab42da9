pub mod Ring
pub mod I32s
pub mod RingTest
pub mod Checks
pub mod Listing
