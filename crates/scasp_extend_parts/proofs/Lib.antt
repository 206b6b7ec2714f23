pub mod CauseLemmas
pub mod SaidLemmas
pub mod LeftLemmas
