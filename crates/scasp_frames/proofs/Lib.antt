-- Lemmas of the proofs.
pub mod BodyLemmas
pub mod FrameLemmas
pub mod RestLemmas
pub mod WorkLemmas
