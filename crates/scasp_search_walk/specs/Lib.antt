pub mod Walks
pub mod Slices
pub mod Inside
pub mod Thin
pub mod Repeats
