pub mod AtomLemmas
pub mod OrderLemmas
