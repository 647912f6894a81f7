pub mod Conditions
pub mod Factors
pub mod Rates
pub mod Inner
