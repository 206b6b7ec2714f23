pub mod NamedLemmas
pub mod PartnerLemmas
