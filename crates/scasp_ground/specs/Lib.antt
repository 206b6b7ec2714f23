pub mod Bounded
pub mod Inside
pub mod Told
