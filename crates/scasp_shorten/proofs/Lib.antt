pub mod ApartLemmas
pub mod EvidentLemmas
pub mod FollowingLemmas
pub mod NeededLemmas
pub mod OrderingLemmas
pub mod RowsLemmas
pub mod ShorteningLemmas
pub mod TestedLemmas
