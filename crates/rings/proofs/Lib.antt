pub mod Whole
pub mod Checks
pub mod RingTest
pub mod Listing
pub mod Ends
pub mod Coordinates
pub mod Unique
