pub mod ClosingLemmas
pub mod CopyLemmas
pub mod CoverLemmas
pub mod ForesightLemmas
pub mod LineLemmas
pub mod MarkLemmas
pub mod SplitLemmas
