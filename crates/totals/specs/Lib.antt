pub mod Totals
pub mod Inner
