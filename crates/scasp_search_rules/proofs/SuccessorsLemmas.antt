pub mod FallLemmas
pub mod Walks
