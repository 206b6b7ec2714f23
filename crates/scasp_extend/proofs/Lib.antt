pub mod ObstacleLemmas
pub mod ModelLemmas
pub mod AboveLemmas
