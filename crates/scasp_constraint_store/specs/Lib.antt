pub mod Asked
pub mod Bound
pub mod Held
pub mod Inside
pub mod Sampled
