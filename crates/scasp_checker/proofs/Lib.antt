pub mod WalkLemmas
pub mod PartnersLemmas
pub mod PairsLemmas
pub mod VerdictLemmas
