pub mod AbductionLemmas
pub mod ChoiceLemmas
pub mod GroundLemmas
pub mod LessLemmas
pub mod MoreLemmas
pub mod PairLemmas
