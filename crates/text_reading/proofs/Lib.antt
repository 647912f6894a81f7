-- Laws by subject: the reader, its loops; worked cases.
pub mod ReadingLaws
pub mod ReadingLoop
pub mod DigitLoop
pub mod Cases
