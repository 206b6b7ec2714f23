pub mod Inside
pub mod Raising
