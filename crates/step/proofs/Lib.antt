pub mod ExtentBounds
pub mod RatingLaws
pub mod StepArithmetic
pub mod StepLoop
pub mod StepNumber
pub mod Unchanged
