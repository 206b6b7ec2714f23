-- Lemmas of the proofs.
pub mod CoverLemmas
pub mod ListLemmas
pub mod OrderLemmas
pub mod ScopeLemmas
