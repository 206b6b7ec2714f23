pub mod CopyLemmas
pub mod LineLemmas
