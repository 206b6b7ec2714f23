pub mod KeyLemmas
pub mod WalkLemmas
