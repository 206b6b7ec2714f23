pub mod Covers
pub mod Inside
