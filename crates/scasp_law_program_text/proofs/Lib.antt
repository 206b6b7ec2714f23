pub mod GrammarLemmas
pub mod ReadbackLemmas
pub mod TermReadbackLemmas
pub mod CompoundReadbackLemmas
pub mod LinearReadbackLemmas
pub mod ClauseReadbackLemmas
pub mod TermFittingLemmas
pub mod FittingLemmas
