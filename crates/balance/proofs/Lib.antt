-- Laws by subject: one cell's totals, cells i to j, sound rivers, one call, a list of calls, and the result.
pub mod CellBalance
pub mod HeldLaws
pub mod Soundness
pub mod CallBalance
pub mod ListBalance
pub mod Demand3
