pub mod Calls
pub mod Held
