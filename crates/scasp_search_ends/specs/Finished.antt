pub mod About
pub mod Onto
