mod AgreeLemmas
pub mod CauseLemmas
pub mod CommandLemmas
pub mod EndLemmas
pub mod TrialLemmas
