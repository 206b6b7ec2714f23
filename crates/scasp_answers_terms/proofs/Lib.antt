pub mod TokensLemmas
pub mod TermsLemmas
