-- Lemmas of the proofs.
pub mod SampleLemmas
pub mod ValueLemmas
