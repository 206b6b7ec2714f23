pub mod MapLemmas
pub mod TallyLemmas
