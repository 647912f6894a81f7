pub mod Cases
pub mod Contents
pub mod Exact
pub mod Balance
pub mod Totals
pub mod Batches
pub mod SetNumber
pub mod PublishedSet
pub mod RefusalLaws
mod FigureLists
