pub mod EndLemmas
pub mod GatherLemmas
pub mod RowLemmas
pub mod StandingLemmas
