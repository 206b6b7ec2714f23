pub mod BlockLemmas
pub mod CourseLemmas
pub mod FaultLemmas
pub mod LineLemmas
