pub mod ConLemmas
pub mod FitLemmas
pub mod LineLemmas
pub mod WordLemmas
