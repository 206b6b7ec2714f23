pub mod Traversal
pub mod Shown
