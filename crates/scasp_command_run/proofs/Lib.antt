pub mod AgreeLemmas
pub mod AnswerLemmas
pub mod EventLemmas
pub mod OutputLemmas
pub mod QueryLemmas
pub mod RunLemmas
