pub mod ClosingLemmas
pub mod SavedLemmas
pub mod TaskLemmas
