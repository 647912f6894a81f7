-- Laws by subject: totals of a cell.
pub mod TotalsLaws
