-- Lemmas of the proofs.
pub mod FormLemmas
