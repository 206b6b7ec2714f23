pub mod AnswerLemmas
pub mod PlaceLemmas
pub mod ProgramLemmas
pub mod ReportLemmas
