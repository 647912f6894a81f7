pub mod Rivers
pub mod Cells
pub mod Checked
pub mod Inner
