-- Laws by subject: lines and their lengths; what the writes leave in a buffer; worked cases.
pub mod LineLaws
pub mod Written
pub mod Cases
