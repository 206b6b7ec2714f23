pub mod Examples
pub mod Giving
pub mod Problems
