pub mod OccurrenceLemmas
pub mod ParameterLemmas
pub mod PartLemmas
