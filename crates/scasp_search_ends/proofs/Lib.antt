pub mod FinishedLemmas
pub mod EndsLemmas
