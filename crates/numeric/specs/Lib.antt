pub mod Table
pub mod Check
pub mod Sum
pub mod Case
