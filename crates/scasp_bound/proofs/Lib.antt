-- Lemmas of the proofs.
pub mod BoundLemmas
pub mod FallLemmas
pub mod OutLemmas
pub mod PairLemmas
pub mod PieceLemmas
pub mod PlaceLemmas
pub mod ReadLemmas
pub mod RootLemmas
pub mod WalkLemmas
