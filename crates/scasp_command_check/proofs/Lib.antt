mod EntryLemmas
pub mod MeaningLemmas
pub mod TookLemmas
mod WorthLemmas
