-- Lemmas of the proofs.
pub mod ListLemmas
pub mod ChainLemmas
pub mod NotingLemmas
pub mod UnseenLemmas
pub mod PlaceLemmas
pub mod IndexLemmas
pub mod FindingLemmas
