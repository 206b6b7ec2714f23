pub mod Sets
pub mod Numbered
pub mod Scenes
pub mod Sorted
