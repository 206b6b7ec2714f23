pub mod AnswerReadbackLemmas
pub mod LineReadbackLemmas
