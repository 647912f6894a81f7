-- Laws by subject: one line; the text of any cells and lines; what the reading loops find; a river's record, written
-- and read back; which texts are records; worked cases.
pub mod LineReading
pub mod TextLaws
pub mod ReadCells
pub mod ReadAnswers
pub mod RecordLaws
pub mod RecordTexts
pub mod Cases
