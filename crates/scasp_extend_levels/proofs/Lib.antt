pub mod SetLemmas
mod BucketLemmas
mod StandingLemmas
mod ReductLemmas
mod SignLemmas
mod LevelLemmas
