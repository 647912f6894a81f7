-- The results.
pub mod Results
