pub mod AnswerReadback
pub mod LineReadback
