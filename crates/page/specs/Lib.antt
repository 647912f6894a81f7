pub mod Pages
pub mod Writing
pub mod Inner
