pub mod FillingLemmas
pub mod FinishingLemmas
