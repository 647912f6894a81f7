pub mod Readings
pub mod Frames
pub mod Inner
