-- Laws by subject: bounds of amounts by the substance's place, and of levels; runs of substances; amounts and carries
-- within bounds, and check 4; a fresh river; what an answer of check 4 tells.
pub mod Bounds
pub mod Levels
pub mod Runs
pub mod Rivers
pub mod FreshLaws
pub mod CheckedLaws
