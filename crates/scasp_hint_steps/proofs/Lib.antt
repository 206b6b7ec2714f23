pub mod FoundLemmas
pub mod PrunedLemmas
