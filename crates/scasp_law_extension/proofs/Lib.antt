pub mod AboveLemmas
pub mod LevelledHeads
pub mod SameStable
