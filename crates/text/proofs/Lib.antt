-- Laws by subject: writes; decimals in columns; digits over blanks; blocks; worked cases.
pub mod WriteLaws
pub mod DecimalLaws
pub mod DigitLaws
pub mod BlockLaws
pub mod Cases
