pub mod Bare
pub mod Copies
