pub mod ReachedLemmas
pub mod LaterLemmas
pub mod PassLemmas
pub mod SliceLemmas
pub mod ComesLemmas
pub mod RepeatLemmas
pub mod ThinLemmas
