pub mod OpensLemmas
pub mod CloseLemmas
