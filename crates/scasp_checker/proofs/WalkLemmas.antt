pub mod CheckedLemmas
pub mod LineLemmas
pub mod RuleLemmas
pub mod WalkLemmas
pub mod ContextLemmas
