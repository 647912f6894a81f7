pub mod Substances
pub mod Totals
pub mod Limits
pub mod Levels
pub mod Parameters
pub mod Rows
pub mod Sets
pub mod Refusals
