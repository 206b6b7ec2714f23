pub mod Causes
pub mod Obstacles
pub mod Inside
