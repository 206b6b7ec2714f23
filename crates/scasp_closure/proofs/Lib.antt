pub mod ReadingLemmas
pub mod StableLemmas
