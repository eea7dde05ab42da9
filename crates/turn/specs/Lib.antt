pub mod Turn
pub mod Order
pub mod Line
pub mod Inner
