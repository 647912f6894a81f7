pub mod Writes
pub mod Decimals
pub mod Blocks
