pub mod Circles
pub mod Examples
