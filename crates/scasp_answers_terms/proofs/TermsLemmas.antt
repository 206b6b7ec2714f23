pub mod PlaceLemmas
pub mod NumberLemmas
pub mod BoundLemmas
pub mod BeginLemmas
