pub mod AtomLemmas
pub mod LeastLemmas
pub mod StableLemmas
