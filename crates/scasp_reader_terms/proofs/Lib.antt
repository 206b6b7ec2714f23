pub mod Places
pub mod VariableLemmas
pub mod TermLemmas
