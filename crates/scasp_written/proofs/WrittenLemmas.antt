pub mod FreeLemmas
pub mod StackLemmas
pub mod TowerLemmas
pub mod WalkLemmas
