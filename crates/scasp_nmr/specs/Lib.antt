pub mod Beside
pub mod Checks
pub mod Examples
