-- Lemmas of the proofs.
pub mod CutLemmas
pub mod PlaceLemmas
