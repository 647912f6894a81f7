pub mod Load
pub mod Flow
pub mod Air
pub mod Inner
