pub mod WayLemmas
pub mod WithinLemmas
