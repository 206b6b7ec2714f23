pub mod CallsLemmas
pub mod CasesLemmas
