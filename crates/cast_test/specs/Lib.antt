pub mod Test
pub mod Inner
