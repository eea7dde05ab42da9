pub mod Query
pub mod Inside
pub mod Inner
