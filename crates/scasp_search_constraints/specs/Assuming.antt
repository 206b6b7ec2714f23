pub mod Taken
pub mod Inside
