-- Laws by subject: one reading; a frame. Worked cases.
pub mod ReadingLaws
pub mod FrameLaws
pub mod Cases
