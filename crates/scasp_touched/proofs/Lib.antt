pub mod AnswerLemmas
pub mod EditLemmas
pub mod MovedLemmas
pub mod NamedLemmas
pub mod PairLemmas
pub mod SetLemmas
