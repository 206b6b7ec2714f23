pub mod EdgeLemmas
pub mod StateLemmas
