pub mod Answers
pub mod Changing
pub mod Inner
