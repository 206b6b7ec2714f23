pub mod Bounds
pub mod Inside
