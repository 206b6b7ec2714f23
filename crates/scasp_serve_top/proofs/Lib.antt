pub mod ServedLemmas
pub mod CommandLemmas
pub mod CauseLemmas
