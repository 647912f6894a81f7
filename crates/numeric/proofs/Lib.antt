-- Laws by subject: differences and expressions of integers, the ring normaliser, bounds, quotients, comparisons, what
-- fits 64 bits, machine expressions, joined bits, sizes, tables, filling loops, sums, checks, grids, chunks,
-- pairs of two lists, tables of cases.
pub mod Difference
pub mod Expression
pub mod RingLaws
pub mod Ring
pub mod Bounds
pub mod Quotient
pub mod Comparison
pub mod Fitting
pub mod Machine
pub mod JoinedBits
pub mod Magnitudes
pub mod TableLaws
pub mod Filling
pub mod SumLaws
pub mod CheckLaws
pub mod GridLaws
pub mod CaseLaws
pub mod ChunkLaws
pub mod PairLaws
