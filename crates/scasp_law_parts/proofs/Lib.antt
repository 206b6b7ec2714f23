pub mod AgreeLemmas
pub mod BoundLemmas
pub mod FixedLemmas
pub mod PartLemmas
pub mod QuestionLemmas
pub mod ReadLemmas
pub mod TriangularLemmas
pub mod WalkLemmas
