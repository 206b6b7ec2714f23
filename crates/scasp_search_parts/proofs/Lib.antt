-- Lemmas of the proofs.
pub mod TakenLemmas
pub mod TimeLemmas
