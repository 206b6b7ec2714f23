-- What private functions alone speak of.
pub mod Asides
pub mod Halting
pub mod Keys
pub mod Outlooks
pub mod Replacing
pub mod Sampled
