pub mod Events
pub mod Examples
pub mod Positive
pub mod Replaced
pub mod Solved
