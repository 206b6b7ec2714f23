pub mod FrontLemmas
pub mod GoingLemmas
pub mod OccursLemmas
pub mod PairLemmas
pub mod PartLemmas
pub mod ReadLemmas
pub mod ShapeLemmas
pub mod StepLemmas
