pub mod ProgramLemmas
pub mod BlocksLemmas
pub mod TopLemmas
