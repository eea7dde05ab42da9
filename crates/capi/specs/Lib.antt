pub mod Told
pub mod Lists
pub mod Rings
pub mod Stripes
pub mod Trees
pub mod Outlines
pub mod Indexes
pub mod Wkb
