pub mod BesideLemmas
pub mod CheckLemmas
