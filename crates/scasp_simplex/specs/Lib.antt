pub mod Inside
pub mod Reached
