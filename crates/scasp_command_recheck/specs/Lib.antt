pub mod Blocks
pub mod Courses
pub mod Lines
pub mod Texts
pub mod Views
pub mod Worths
