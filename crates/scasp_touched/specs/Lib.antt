pub mod Inside
pub mod Moved
pub mod Named
pub mod Once
pub mod Same
pub mod Told
pub mod Touched
pub mod Unseen
