pub mod Inside
pub mod Numbered
