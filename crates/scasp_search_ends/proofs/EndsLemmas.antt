pub mod AnswerLemmas
pub mod BehindLemmas
pub mod ClashLemmas
pub mod PairLemmas
