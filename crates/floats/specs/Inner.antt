pub mod NextBits
