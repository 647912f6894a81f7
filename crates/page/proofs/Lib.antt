-- Laws by subject: a level in its columns; characters; a row; the page; the number and the writes; worked cases.
pub mod LevelLaws
pub mod Characters
pub mod FigureLaws
pub mod RowLaws
pub mod PageLaws
pub mod Written
pub mod Cases
