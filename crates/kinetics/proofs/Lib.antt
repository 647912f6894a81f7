pub mod ConditionLaws
pub mod FactorLaws
pub mod RateBounds
pub mod Uptake
