pub mod Inside
pub mod Sampling
