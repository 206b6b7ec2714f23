pub mod BelowLemmas
pub mod FlatLemmas
pub mod FreeLemmas
pub mod ViewLemmas
pub mod WalkLemmas
