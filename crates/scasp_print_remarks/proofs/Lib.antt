pub mod PlainLemmas
pub mod SkeletonLemmas
pub mod TellingLemmas
mod Vectors
