pub mod NewNameLemmas
pub mod NameSetLemmas
pub mod OpposedLemmas
pub mod RuleLemmas
