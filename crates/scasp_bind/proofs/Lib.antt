-- Lemmas of the proofs.
pub mod StepLemmas
pub mod ResolvingLemmas
pub mod WalkLemmas
pub mod HeadLemmas
pub mod SoundLemmas
pub mod DepthLemmas
pub mod JobLemmas
pub mod LoweringLemmas
pub mod NoteLemmas
