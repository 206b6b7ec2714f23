pub mod CommandLemmas
mod EndLemmas
mod EntryLemmas
pub mod FaultLemmas
mod LineLemmas
mod OutcomeLemmas
mod ReportLemmas
